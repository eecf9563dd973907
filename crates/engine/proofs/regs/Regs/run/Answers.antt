use mathlib.Core.Path.{◌∙◌}
use Rattle.engine.proofs.Looping.{may_step, going_on, is_over}
use Rattle.engine.proofs.regs.Regs.run.Goals as goal

pub step-turn-requires : goal.step-turn-requires
step-turn-requires c =
    let i = c.loop-ending.invariant in may_step c.requires (i.0 c.requires) i.1 i.2

pub loop-ending-smaller : goal.loop-ending-smaller
loop-ending-smaller c =
    let p = c.requires in let o = going_on p (c.loop-ending.invariant.0 p) c.loop-ending.invariant.1 c.loop-ending.invariant.2 _ _ c.step-turn.ensures (λ e. c.in_default.not-Some e) in o.less

pub loop-ending-preserved : goal.loop-ending-preserved
loop-ending-preserved c =
    let i = c.loop-ending.invariant in (λ u. (going_on u (c.loop-ending.invariant.0 u) i.1 i.2 _ _ c.step-turn.ensures (λ e. c.in_default.not-Some e)).going, c.step-turn.auto.stack ∙ i.1, c.step-turn.auto.heap ∙ i.2, c.step-turn.auto.wires ∙ i.3, c.step-turn.auto.order ∙ i.4)

pub returns : goal.returns
returns c =
    λ u. is_over u (c.loop-ending.invariant.0 u) c.loop-ending.invariant.1 c.loop-ending.invariant.2 _ _ c.step-turn.ensures _ c.in-Some.is
