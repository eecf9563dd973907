use native.Mathlib.Omega.{arith}
use mathlib.Core.Path.{refl}
use Rattle.engine.proofs.Turning.{settled}
use Rattle.engine.proofs.Steering.{goto_leads}
use Rattle.engine.proofs.regs.Regs.goto.Goals as goal

pub returns : goal.returns
returns c =
    λ lim st he wi or wn. record { each = λ ws hs h m n. settled (goto_leads c.requires h wi or _ _) _ (c.charge.ensures _ (omega (arith, wn.stack, c.requires.fp, c.requires.lp)) wn.heap) (λ a b. record { stack = h.stack; heap = h.heap; wires = refl; order = refl }) }
