use Rattle.engine.specs.Limits.{up_to}
use mathlib.Core.Path.{refl, sym, ◌∙◌}
use native.Mathlib.Omega.{arith}
use lib.ListN.{length-set}
use Rattle.engine.proofs.Turning.{settle_yes, settle_no, went_on}
use Rattle.engine.proofs.Steering.{call_leads, call_bears}
use Rattle.engine.proofs.regs.Regs.call.Goals as goal

pub bounds-stack-sp : goal.bounds-stack-sp
bounds-stack-sp c =
    let p = went_on (c.charge-turn.ensures (up_to _ c.args.self.hp) refl (omega arith)) (sym c.goes_on.ensures ∙ c.if-goes_on.true) in omega (arith, p.depth, c.requires.sp_in_bounds)

pub bounds-stack-sp-then-goes_on : goal.bounds-stack-sp-then-goes_on
bounds-stack-sp-then-goes_on c =
    let p = went_on (c.charge-turn.ensures (up_to _ c.args.self.hp) refl (omega arith)) (sym c.goes_on.ensures ∙ c.if-goes_on.true) in simp length-set (omega (arith, p.depth, c.requires.sp_in_bounds))

pub bounds-stack-sp-then-goes_on-2 : goal.bounds-stack-sp-then-goes_on-2
bounds-stack-sp-then-goes_on-2 c =
    let p = went_on (c.charge-turn.ensures (up_to _ c.args.self.hp) refl (omega arith)) (sym c.goes_on.ensures ∙ c.if-goes_on.true) in simp length-set (omega (arith, p.depth, c.requires.sp_in_bounds))

pub returns-then-goes_on : goal.returns-then-goes_on
returns-then-goes_on c =
    λ hl P he wi or e wn. record { each = λ ws hs h m n. settle_yes (call_leads c.requires.fit h wi or P _ _ _ e) _ _ (c.charge-turn.ensures _ refl wn) (sym c.goes_on.ensures ∙ c.if-goes_on.true) (λ a b. record { stack = call_bears c.requires.fit h wi or _ _ _ refl refl refl (omega (arith, a, c.requires.sp_in_bounds)); heap = h.heap; wires = refl; order = refl }) }

pub returns-else-goes_on : goal.returns-else-goes_on
returns-else-goes_on c =
    λ hl P he wi or e wn. record { each = λ ws hs h m n. settle_no (call_leads c.requires.fit h wi or P _ _ _ e) _ (c.charge-turn.ensures _ refl wn) (sym c.goes_on.ensures ∙ c.if-goes_on.false) }
