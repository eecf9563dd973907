use Rattle.engine.specs.Limits.{up_to}
use mathlib.Core.Path.{refl, ◌∙◌, sym}
use native.Mathlib.Omega.{arith}
use lib.ListN.{length-set}
use Rattle.engine.proofs.Turning.{settle_yes, settle_no, went_on}
use Rattle.engine.proofs.Moving.{create_few, create_leads, create_bears}
use Rattle.engine.proofs.regs.Regs.create_frame.Goals as goal

pub returns-then-sp-self-lt3 : goal.returns-then-sp-self-lt3
returns-then-sp-self-lt3 c =
    λ hl he wi or wn. record { each = λ ws hs h m n. create_few c.requires.fit h wi or _ _ c.if-sp-self-lt3.true c.halt.ensures }

pub bounds-stack-sp : goal.bounds-stack-sp
bounds-stack-sp c =
    let p = went_on (c.charge-turn.ensures (up_to _ c.args.self.hp) refl (omega arith)) (sym c.goes_on.ensures ∙ c.if-goes_on.true) in omega (arith, p.depth, c.requires.sp_in_bounds)

pub blank-requires : goal.blank-requires
blank-requires c =
    let p = went_on (c.charge-turn.ensures (up_to _ c.args.self.hp) refl (omega arith)) (sym c.goes_on.ensures ∙ c.if-goes_on.true) in simp length-set (omega (arith, p.depth, c.requires.sp_in_bounds))

pub returns-then-goes_on : goal.returns-then-goes_on
returns-then-goes_on c =
    λ hl he wi or wn. record { each = λ ws hs h m n. settle_yes (create_leads c.requires.fit h wi or _ _ c.ranges.a.fits c.if-sp-self-lt3.false) _ _ (c.charge-turn.ensures _ refl wn) (sym c.goes_on.ensures ∙ c.if-goes_on.true) (λ a b. record { stack = create_bears c.requires.fit h wi or _ _ _ refl (omega (arith, a, c.requires.sp_in_bounds)) c.blank.ensures; heap = h.heap; wires = refl; order = refl }) }

pub returns-else-goes_on : goal.returns-else-goes_on
returns-else-goes_on c =
    λ hl he wi or wn. record { each = λ ws hs h m n. settle_no (create_leads c.requires.fit h wi or _ _ c.ranges.a.fits c.if-sp-self-lt3.false) _ (c.charge-turn.ensures _ refl wn) (sym c.goes_on.ensures ∙ c.if-goes_on.false) }
