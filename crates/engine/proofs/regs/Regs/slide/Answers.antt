use mathlib.Core.Path.{refl, sym, ◌∙◌}
use native.Mathlib.Omega.{arith}
use Rattle.engine.proofs.Turning.{settle_yes, settle_no, reads_below}
use Rattle.engine.proofs.Moving.{slide_few, slide_leads, slide_bears}
use Rattle.engine.proofs.regs.Regs.slide.Goals as goal

pub returns-then-sp-self : goal.returns-then-sp-self
returns-then-sp-self c =
    λ lim he wi or wn. record { each = λ ws hs h m n. slide_few c.requires.fit h wi or _ _ c.if-sp-self.true c.halt.ensures }

pub returns-then-goes_on : goal.returns-then-goes_on
returns-then-goes_on c =
    λ lim he wi or wn. record { each = λ ws hs h m n. settle_yes (slide_leads c.requires.fit h wi or _ _ c.if-sp-self.false) _ _ (c.charge-turn.ensures _ (omega (arith, wn.stack, c.requires.fit.fp, c.requires.fit.lp)) wn.heap) (sym c.goes_on.ensures ∙ c.if-goes_on.true) (λ a b. record { stack = slide_bears c.requires.fit h wi or _ _ c.if-sp-self.false (reads_below h 0 _ (omega (arith, c.if-sp-self.false)) refl) (omega (arith, c.requires.fit.sp, c.requires.sp_in_bounds)); heap = h.heap; wires = refl; order = refl }) }

pub returns-else-goes_on : goal.returns-else-goes_on
returns-else-goes_on c =
    λ lim he wi or wn. record { each = λ ws hs h m n. settle_no (slide_leads c.requires.fit h wi or _ _ c.if-sp-self.false) _ (c.charge-turn.ensures _ (omega (arith, wn.stack, c.requires.fit.fp, c.requires.fit.lp)) wn.heap) (sym c.goes_on.ensures ∙ c.if-goes_on.false) }
