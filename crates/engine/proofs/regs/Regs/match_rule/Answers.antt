use native.Mathlib.Omega.{arith}
use Rattle.engine.proofs.Trying.{rule_none, rule_leads, drops}
use Rattle.engine.proofs.Turning.{settled}
use Rattle.engine.proofs.regs.Regs.match_rule.Goals as goal

pub returns-then-count-self : goal.returns-then-count-self
returns-then-count-self c =
    λ lim st he wi or wn. record { each = λ ws hs h m n. rule_none h wi or _ _ (rw c.count_of-count.ensures.0 at c.if-count-self.true) c.halt.ensures }

pub returns : goal.returns
returns c =
    λ lim st he wi or wn. record { each = λ ws hs h m n. settled (rule_leads h wi or c.requires.fit _ _ (rw c.count_of-count.ensures.0 at c.if-count-self.false)) _ (c.charge.ensures _ (omega (arith, wn.stack, c.requires.fit.fp, c.requires.fit.lp)) wn.heap) (λ a b. drops h wi or c.requires.fit) }
