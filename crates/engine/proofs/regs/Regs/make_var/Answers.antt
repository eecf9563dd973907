use mathlib.Core.Path.{refl, sym, ◌∙◌}
use native.Mathlib.Omega.{arith}
use Rattle.engine.proofs.Turning.{settle_yes, settle_no, reads_below}
use Rattle.engine.proofs.Moving.{make_var_few, make_var_none, make_var_leads, make_var_bears}
use Rattle.engine.proofs.regs.Regs.make_var.Goals as goal

pub returns-then-sp-self-lt1 : goal.returns-then-sp-self-lt1
returns-then-sp-self-lt1 c =
    λ lim he wi or wn. record { each = λ ws hs h m n. make_var_few c.requires.fit h wi or _ _ c.if-sp-self-lt1.true c.halt.ensures }

pub returns-then-self-fp : goal.returns-then-self-fp
returns-then-self-fp c =
    λ lim he wi or wn. record { each = λ ws hs h m n. make_var_none c.requires.fit h wi or _ _ c.if-sp-self-lt1.false c.if-self-fp.true c.halt-then-self-fp.ensures }

pub returns-then-goes_on : goal.returns-then-goes_on
returns-then-goes_on c =
    λ lim he wi or wn. record { each = λ ws hs h m n. settle_yes (make_var_leads c.requires.fit h wi or _ _ c.if-sp-self-lt1.false c.if-self-fp.false) _ _ (c.charge-turn.ensures _ (omega (arith, wn.stack, c.requires.fit.fp, c.requires.fit.lp)) wn.heap) (sym c.goes_on.ensures ∙ c.if-goes_on.true) (λ a b. record { stack = make_var_bears c.requires.fit h wi or _ _ c.if-sp-self-lt1.false c.if-self-fp.false (reads_below h 0 _ (omega (arith, c.if-sp-self-lt1.false)) refl); heap = h.heap; wires = refl; order = refl }) }

pub returns-else-goes_on : goal.returns-else-goes_on
returns-else-goes_on c =
    λ lim he wi or wn. record { each = λ ws hs h m n. settle_no (make_var_leads c.requires.fit h wi or _ _ c.if-sp-self-lt1.false c.if-self-fp.false) _ (c.charge-turn.ensures _ (omega (arith, wn.stack, c.requires.fit.fp, c.requires.fit.lp)) wn.heap) (sym c.goes_on.ensures ∙ c.if-goes_on.false) }
