use Rattle.std.proofs.Common.{◌≡◌, ℕ, ◌<◌, List, length, get_or, reverse, refl, sym, ap, ◌∙◌, add-one, arith}
use Rattle.std.proofs.lemmas.Iterator.Adapters.{YieldsList-from_rev_slice}
use Rattle.std.proofs.lemmas.Iterator.Consumers.{YieldsList-turn, YieldsList-end}
use Rattle.std.proofs.lemmas.Grind.{get_or_default_zero}
use Rattle.std.proofs.lemmas.List.{length_push}
use Rattle.engine.specs.Reports.{eight, reported}
use Rattle.sheet.proofs.Lines.{line_end, kept_all, kept_both, after_last, last_figures, one_figure, all_figures}
use Rattle.sheet.proofs.line.figures_line.Goals as goal

pub loop-figure-init : goal.loop-figure-init
loop-figure-init c =
    record { room = omega arith; high = omega arith; after = refl; written = line_end c.args.line.now 88 (omega arith); sized = omega arith; kept = kept_all _ _ }

pub loop-figure-preserved : goal.loop-figure-preserved
loop-figure-preserved c =
    let loop = c.loop-figure in
    let k = length loop.yielded in
    let put = c.put_figure-at.ensures in
    let t =
    YieldsList-turn (YieldsList-from_rev_slice c.figures-figures.result cc) loop.yielded _ loop.yielded_by _ _ c.in-Some.figure c.in-Some.is c.next.ensures.steps in
    let n = length_push loop.yielded c.in-Some.figure in
    let more : k < 8 = omega (arith, t.0, ap (λ (l : List ℕ). length (reverse l)) c.figures-figures.ensures) in
    let x : c.in-Some.figure.now ≡ get_or (reverse (eight (reported c.args.report.now))) k 0 =
    t.1
    ∙ get_or_default_zero (reverse c.figures-figures.result) k _ t.0
    ∙ ap (λ (l : List ℕ). get_or (reverse l) k 0) c.figures-figures.ensures in
    record {
      room = omega (arith, n, more);
      high = omega arith;
      after = sym (ap after_last (n ∙ add-one k));
      written = one_figure (reverse (eight (reported c.args.report.now))) k _ _ _ n x loop.invariant.after loop.invariant.written put.is;
      sized = put.sized ∙ loop.invariant.sized;
      kept = kept_both loop.invariant.kept put.kept put.high;
    }

pub returns : goal.returns
returns c =
    let loop = c.loop-figure in
    let t =
    YieldsList-end (YieldsList-from_rev_slice c.figures-figures.result cc) loop.yielded _ loop.yielded_by _ _ c.in-None.is c.next.ensures.steps in
    let n : length loop.yielded ≡ 8 = t.1 ∙ ap (λ (l : List ℕ). length (reverse l)) c.figures-figures.ensures in
    record {
      is =
          loop.invariant.written
          ∙ ap (λ (k : ℕ). last_figures (reverse (eight (reported c.args.report.now))) k) n
          ∙ all_figures (reported c.args.report.now);
      kept = loop.invariant.kept;
      low = omega arith;
      high = loop.invariant.high;
      sized = loop.invariant.sized;
    }
