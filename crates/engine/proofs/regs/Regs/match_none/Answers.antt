use native.Mathlib.Omega.{arith}
use Rattle.engine.proofs.Trying.{none_leads, stays}
use Rattle.engine.proofs.Turning.{settled}
use Rattle.engine.proofs.regs.Regs.match_none.Goals as goal

pub returns : goal.returns
returns c =
    λ lim st he wi or wn. record { each = λ ws hs h m n. settled (none_leads h wi or _) _ (c.charge.ensures _ (omega (arith, wn.stack, c.requires.fp, c.requires.lp)) wn.heap) (λ a b. stays h wi or) }
