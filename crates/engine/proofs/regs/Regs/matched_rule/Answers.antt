use native.Mathlib.Omega.{arith}
use Rattle.engine.proofs.Trying.{matched_leads, drops}
use Rattle.engine.proofs.Turning.{settled}
use Rattle.engine.proofs.regs.Regs.matched_rule.Goals as goal

pub returns : goal.returns
returns c =
    λ lim st he wi or wn. record { each = λ ws hs h m n. settled (matched_leads h wi or c.requires _) _ (c.charge.ensures _ (omega (arith, wn.stack, c.requires.fp, c.requires.lp)) wn.heap) (λ a b. drops h wi or c.requires) }
