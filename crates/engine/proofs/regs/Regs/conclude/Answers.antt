use native.Mathlib.Omega.{arith}
use Rattle.engine.proofs.Trying.{hit_leads, miss_leads, miss_ends, stays}
use Rattle.engine.proofs.Turning.{settled}
use Rattle.engine.proofs.regs.Regs.conclude.Goals as goal

pub returns-then-attempt : goal.returns-then-attempt
returns-then-attempt c =
    λ lim st he wi wn. record { each = λ ws hs h m n. settled (hit_leads h wi _ _ _ _ c.if-attempt.true) _ (c.charge.ensures _ (omega (arith, wn.stack, c.requires.fit.fp, c.requires.fit.lp)) wn.heap) (λ a b. stays h wi _) }

pub returns-then-count-self : goal.returns-then-count-self
returns-then-count-self c =
    λ lim st he wi wn. record { each = λ ws hs h m n. miss_ends h wi _ _ _ _ c.if-attempt.false (rw c.count_of-count.ensures.0 at c.if-count-self.true) c.halt.ensures }

pub returns : goal.returns
returns c =
    λ lim st he wi wn. record { each = λ ws hs h m n. settled (miss_leads h wi _ _ _ _ _ c.if-attempt.false (rw c.count_of-count.ensures.0 at c.if-count-self.false) c.rule_at.ensures.0) _ (c.charge-2.ensures _ (omega (arith, wn.stack, c.requires.fit.fp, c.requires.fit.lp)) wn.heap) (λ a b. stays h wi _) }
