use Rattle.engine.specs.Limits.{up_to}
use mathlib.Core.Path.{refl, sym, ◌∙◌}
use native.Mathlib.Omega.{arith}
use Rattle.engine.proofs.Turning.{settle_yes, settle_no, went_on}
use Rattle.engine.proofs.Moving.{push_nulls_leads, push_nulls_bears}
use Rattle.engine.proofs.regs.Regs.push_nulls.Goals as goal

pub blank-requires : goal.blank-requires
blank-requires c =
    let p = went_on (c.charge-turn.ensures (up_to _ c.args.self.hp) refl (omega arith)) (sym c.goes_on.ensures ∙ c.if-goes_on.true) in omega (arith, p.depth, c.requires.sp_in_bounds)

pub returns-then-goes_on : goal.returns-then-goes_on
returns-then-goes_on c =
    λ hl he wi or wn. record { each = λ ws hs h m n. settle_yes (push_nulls_leads c.requires.fit h wi or _ c.args.a) _ _ (c.charge-turn.ensures _ refl wn) (sym c.goes_on.ensures ∙ c.if-goes_on.true) (λ a b. record { stack = push_nulls_bears c.requires.fit h wi or c.args.a _ (omega (arith, a, c.requires.sp_in_bounds)) c.blank.ensures; heap = h.heap; wires = refl; order = refl }) }

pub returns-else-goes_on : goal.returns-else-goes_on
returns-else-goes_on c =
    λ hl he wi or wn. record { each = λ ws hs h m n. settle_no (push_nulls_leads c.requires.fit h wi or _ c.args.a) _ (c.charge-turn.ensures _ refl wn) (sym c.goes_on.ensures ∙ c.if-goes_on.false) }
