use mathlib.Core.Path.{refl, sym, ◌∙◌}
use native.Mathlib.Omega.{arith}
use borrow.Author.Tests.{not-true, not-false}
use Rattle.engine.proofs.Turning.{settle_yes, settle_no, reads_below}
use Rattle.engine.proofs.Steering.{framed_deep, return_few, return_bad, return_leads, return_bears}
use Rattle.engine.proofs.regs.Regs.give_back.Goals as goal

pub returns-then-sp-self-lt1 : goal.returns-then-sp-self-lt1
returns-then-sp-self-lt1 c =
    λ lim he wi or wn. record { each = λ ws hs h m n. return_few c.requires.fit h wi or _ c.if-sp-self-lt1.true c.halt.ensures }

pub returns-then-not-has_frame : goal.returns-then-not-has_frame
returns-then-not-has_frame c =
    λ lim he wi or wn. record { each = λ ws hs h m n. return_bad c.requires.fit h wi or m _ c.if-sp-self-lt1.false c.requires.framed (sym c.has_frame.ensures ∙ not-true _ c.if-not-has_frame.true-raw) c.halt-then-not-has_frame.ensures }

pub overflow_sub-ruled : goal.overflow_sub-ruled
overflow_sub-ruled c =
    let d = framed_deep _ _ (sym c.has_frame.ensures ∙ not-false _ c.if-not-has_frame.false-raw) in omega (arith, d)

pub overflow_sub-back : goal.overflow_sub-back
overflow_sub-back c =
    let d = framed_deep _ _ (sym c.has_frame.ensures ∙ not-false _ c.if-not-has_frame.false-raw) in omega (arith, d)

pub overflow_sub-next : goal.overflow_sub-next
overflow_sub-next c =
    let d = framed_deep _ _ (sym c.has_frame.ensures ∙ not-false _ c.if-not-has_frame.false-raw) in omega (arith, d)

pub overflow_sub-next-2 : goal.overflow_sub-next-2
overflow_sub-next-2 c =
    let d = framed_deep _ _ (sym c.has_frame.ensures ∙ not-false _ c.if-not-has_frame.false-raw) in omega (arith, d)

pub locals_end-requires : goal.locals_end-requires
locals_end-requires c =
    let d = framed_deep _ _ (sym c.has_frame.ensures ∙ not-false _ c.if-not-has_frame.false-raw) in let k = c.requires.framed.back (omega (arith, d)) in omega (arith, k, c.requires.fit, c.requires.sp_in_bounds)

pub overflow_sub-next-3 : goal.overflow_sub-next-3
overflow_sub-next-3 c =
    let d = framed_deep _ _ (sym c.has_frame.ensures ∙ not-false _ c.if-not-has_frame.false-raw) in omega (arith, d)

pub overflow_sub-stack : goal.overflow_sub-stack
overflow_sub-stack c =
    let d = framed_deep _ _ (sym c.has_frame.ensures ∙ not-false _ c.if-not-has_frame.false-raw) in omega (arith, d)

pub returns-then-goes_on : goal.returns-then-goes_on
returns-then-goes_on c =
    let d = framed_deep _ _ (sym c.has_frame.ensures ∙ not-false _ c.if-not-has_frame.false-raw) in λ lim he wi or wn. record { each = λ ws hs h m n. settle_yes (return_leads c.requires.fit h wi or m _ _ c.if-sp-self-lt1.false c.requires.framed (sym c.has_frame.ensures ∙ not-false _ c.if-not-has_frame.false-raw) (c.locals_end.ensures ws h.stack (omega (arith, d, c.requires.framed.back (omega arith), h.sp, c.requires.fit.fp, c.requires.fit.lp)))) _ _ (c.charge-turn.ensures _ (omega (arith, wn.stack, c.requires.fit.fp, c.requires.fit.lp)) wn.heap) (sym c.goes_on.ensures ∙ c.if-goes_on.true) (λ a b. record { stack = return_bears c.requires.fit h wi or m _ d (omega (arith, c.requires.fit.sp, c.requires.sp_in_bounds)) (reads_below h 0 _ (omega (arith, c.if-sp-self-lt1.false)) refl); heap = h.heap; wires = refl; order = refl }) }

pub returns-else-goes_on : goal.returns-else-goes_on
returns-else-goes_on c =
    let d = framed_deep _ _ (sym c.has_frame.ensures ∙ not-false _ c.if-not-has_frame.false-raw) in λ lim he wi or wn. record { each = λ ws hs h m n. settle_no (return_leads c.requires.fit h wi or m _ _ c.if-sp-self-lt1.false c.requires.framed (sym c.has_frame.ensures ∙ not-false _ c.if-not-has_frame.false-raw) (c.locals_end.ensures ws h.stack (omega (arith, d, c.requires.framed.back (omega arith), h.sp, c.requires.fit.fp, c.requires.fit.lp)))) _ (c.charge-turn.ensures _ (omega (arith, wn.stack, c.requires.fit.fp, c.requires.fit.lp)) wn.heap) (sym c.goes_on.ensures ∙ c.if-goes_on.false) }
