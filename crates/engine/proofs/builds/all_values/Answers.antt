use mathlib.Core.Path.{sym, ◌∙◌}
use native.Mathlib.Omega.{arith}
use borrow.Author.Tests.{not-true, not-false}
use Rattle.engine.proofs.Building.{bears_below, small_below, values_stop, values_more, values_end}
use Rattle.engine.proofs.builds.all_values.Goals as goal

pub returns-then-not-is_value : goal.returns-then-not-is_value
returns-then-not-is_value c =
    λ ws b m e.
    sym
    (sym (c.loop-i.invariant ws b m e)
    ∙ values_stop ws _ _ c.loop-i-test.true
    (sym
    (c.is_value.ensures _ (bears_below _ _ b e (omega (arith, c.loop-i-test.true, c.requires.0)))
    (small_below _ m))
    ∙ not-true _ c.if-not-is_value.true-raw))

pub loop-i-preserved : goal.loop-i-preserved
loop-i-preserved c =
    λ ws b m e.
    sym
    (values_more ws _ _ c.loop-i-test.true
    (sym
    (c.is_value.ensures _ (bears_below _ _ b e (omega (arith, c.loop-i-test.true, c.requires.0)))
    (small_below _ m))
    ∙ not-false _ c.if-not-is_value.false-raw))
    ∙ c.loop-i.invariant ws b m e

pub returns : goal.returns
returns c =
    λ ws b m e. sym (sym (c.loop-i.invariant ws b m e) ∙ values_end ws _ _ c.loop-i-test.false)
