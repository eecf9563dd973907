use native.Mathlib.Omega.{arith}
use Rattle.engine.proofs.Trying.{start_leads, stays}
use Rattle.engine.proofs.Turning.{settled}
use Rattle.engine.proofs.regs.Regs.start_matches.Goals as goal

pub returns : goal.returns
returns c =
    λ lim st he wi wn. record { each = λ ws hs h m n. settled (start_leads h wi _ _ _ _ c.rule_at.ensures.0) _ (c.charge.ensures _ (omega (arith, wn.stack, c.requires.fit.fp, c.requires.fit.lp)) wn.heap) (λ a b. stays h wi _) }
