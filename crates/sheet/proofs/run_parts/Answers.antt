use Rattle.std.proofs.Common.{◌≡◌, true, rules, ap, sym, ◌∙◌}
use Rattle.hume.specs.Image.{program}
use Rattle.hume.specs.Refusals.{image_refusal}
use Rattle.hume.specs.Sheet.{sheet_ok, refused_line}
use Rattle.gate.specs.Verdicts.{number, number_of}
use Rattle.gate.proofs.Unique.{refusal_some}
use Rattle.sheet.specs.Said.{said}
use Rattle.sheet.proofs.Deciding.{call_refused, call_figures}
use Rattle.sheet.proofs.run_parts.Goals as goal

pub returns-in_err-report : goal.returns-in_err-report
returns-in_err-report c =
    let good : image_refusal c.args.image.now ≡ 0 = search rules in
    let ok : sheet_ok (program c.args.image.now) c.args.sheet.now ≡ true = search rules in
    let line : said c.from_residual-in_err-report.result ≡ refused_line (number_of c.in_err-report.field-0.0) = search rules in
    line
    ∙ call_refused _ _ good ok _ (sym (ap number c.in_err-report.was) ∙ c.run-report.ensures.verdict)
    (refusal_some c.in_err-report.field-0.0)

pub returns : goal.returns
returns c =
    let good : image_refusal c.args.image.now ≡ 0 = search rules in
    let ok : sheet_ok (program c.args.image.now) c.args.sheet.now ≡ true = search rules in
    call_figures _ _ good ok _ (sym (ap number c.in_ok-report.was) ∙ c.run-report.ensures.verdict) c.run-report.ensures.figures
