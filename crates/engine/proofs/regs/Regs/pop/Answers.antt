use native.Mathlib.Omega.{arith}
use mathlib.Core.Path.{refl}
use Rattle.engine.proofs.Turning.{settled}
use Rattle.engine.proofs.Areas.{bears_without}
use Rattle.engine.proofs.Moving.{pop_few, pop_leads}
use Rattle.engine.proofs.regs.Regs.pop.Goals as goal

pub returns-then-self-n : goal.returns-then-self-n
returns-then-self-n c =
    λ lim st he wi or wn. record { each = λ ws hs h m n. pop_few c.requires h _ _ _ _ c.if-self-n.true c.halt.ensures }

pub returns : goal.returns
returns c =
    λ lim st he wi or wn. record { each = λ ws hs h m n. settled (pop_leads c.requires h _ _ _ _ c.if-self-n.false) _ (c.charge.ensures _ (omega (arith, wn.stack, c.requires.fp, c.requires.lp)) wn.heap) (λ a b. record { stack = bears_without _ _ _ h.stack; heap = h.heap; wires = refl; order = refl }) }
