use Rattle.engine.proofs.Trying.{reorder_leads, reordered_moves, reordered_stays}
use Rattle.laws.proofs.Orders.{order_room}
use Rattle.engine.proofs.Turning.{settle_yes, settle_no}
use native.Mathlib.Omega.{arith}
use mathlib.Core.Path.{refl, sym, ◌∙◌}
use Rattle.engine.proofs.regs.Regs.reorder.Goals as goal

pub overflow_add-from : goal.overflow_add-from
overflow_add-from c = omega (arith, order_room c.requires.order_fits c.args.self.rs c.requires.rs_bound, c.order_of-from.ensures, c.count_of-count.ensures.0, c.if-self-count.true)

pub overflow_add-from-then-self-count : goal.overflow_add-from-then-self-count
overflow_add-from-then-self-count c = omega (arith, order_room c.requires.order_fits c.args.self.rs c.requires.rs_bound, c.order_of-from.ensures, c.count_of-count.ensures.0, c.if-self-count.true)

pub move_last-requires : goal.move_last-requires
move_last-requires c = omega (arith, order_room c.requires.order_fits c.args.self.rs c.requires.rs_bound, c.order_of-from.ensures, c.count_of-count.ensures.0, c.if-self-count.true)

pub returns-then-self-count : goal.returns-then-self-count
returns-then-self-count c =
    λ lim st he wi wn. record { each = λ ws hs h m n. settle_yes (reorder_leads h wi _ _ _) _ _ (c.charge-turn.ensures _ (omega (arith, wn.stack, c.requires.fit.fp, c.requires.fit.lp)) wn.heap) (sym c.goes_on.ensures ∙ c.if-goes_on.true) (λ a b. record { stack = h.stack; heap = h.heap; wires = refl; order = reordered_moves h wi _ _ _ _ c.order_of-from.ensures c.count_of-count.ensures.0 c.if-self-count.true c.move_last.ensures }) }

pub returns-else-self-count : goal.returns-else-self-count
returns-else-self-count c =
    λ lim st he wi wn. record { each = λ ws hs h m n. settle_yes (reorder_leads h wi _ _ _) _ _ (c.charge-turn.ensures _ (omega (arith, wn.stack, c.requires.fit.fp, c.requires.fit.lp)) wn.heap) (sym c.goes_on.ensures ∙ c.if-goes_on.true) (λ a b. record { stack = h.stack; heap = h.heap; wires = refl; order = reordered_stays h wi _ _ (rw c.count_of-count.ensures.0 at c.if-self-count.false) }) }

pub returns-else-goes_on : goal.returns-else-goes_on
returns-else-goes_on c =
    λ lim st he wi wn. record { each = λ ws hs h m n. settle_no (reorder_leads h wi _ _ _) _ (c.charge-turn.ensures _ (omega (arith, wn.stack, c.requires.fit.fp, c.requires.fit.lp)) wn.heap) (sym c.goes_on.ensures ∙ c.if-goes_on.false) }
