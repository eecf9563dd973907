use Rattle.sheet.proofs.Giving.{sheet_given_lem, told_refusal, told_figures}
use Rattle.sheet.proofs.decode.Asked.run.Goals as goal

pub returns : goal.returns
returns c =
    let given =
    sheet_given_lem _ _ _ _ _ _ _ _ c.words.ensures c.first_wires-wired.ensures.1 c.first_order-rules.ensures.1 c.word.ensures c.word-2.ensures c.word-3.ensures in
    record {
      verdict = told_refusal _ _ given c.run.ensures;
      figures = told_figures _ _ given c.run.ensures;
    }
