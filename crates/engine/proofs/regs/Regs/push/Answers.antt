use Rattle.engine.specs.Limits.{up_to}
use mathlib.Core.Path.{refl, sym, ◌∙◌}
use native.Mathlib.Omega.{arith}
use Rattle.engine.proofs.Turning.{settle_yes, settle_no, went_on}
use Rattle.engine.proofs.Areas.{bears_push}
use Rattle.engine.proofs.Moving.{push_leads}
use Rattle.engine.proofs.regs.Regs.push.Goals as goal

pub bounds-stack-sp : goal.bounds-stack-sp
bounds-stack-sp c =
    let p = went_on (c.charge-turn.ensures (up_to _ c.args.self.hp) refl (omega arith)) (sym c.goes_on.ensures ∙ c.if-goes_on.true) in omega (arith, p.depth, c.requires.sp_in_bounds)

pub returns-then-goes_on : goal.returns-then-goes_on
returns-then-goes_on c =
    λ hl v he wi or e wn. record { each = λ ws hs h m n. settle_yes (push_leads c.requires.fit h wi or _ v) _ _ (c.charge-turn.ensures _ refl wn) (sym c.goes_on.ensures ∙ c.if-goes_on.true) (λ a b. record { stack = bears_push _ ws v _ _ h.stack h.sp e (omega (arith, c.requires.sp_in_bounds, a)); heap = h.heap; wires = refl; order = refl }) }

pub returns-else-goes_on : goal.returns-else-goes_on
returns-else-goes_on c =
    λ hl v he wi or e wn. record { each = λ ws hs h m n. settle_no (push_leads c.requires.fit h wi or _ v) _ (c.charge-turn.ensures _ refl wn) (sym c.goes_on.ensures ∙ c.if-goes_on.false) }
