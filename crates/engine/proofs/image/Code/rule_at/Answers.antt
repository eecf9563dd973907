use Rattle.engine.proofs.Imaging.{rule_at_lem, rule_small}
use Rattle.hume.specs.Image.{program}
use Rattle.laws.proofs.Orders.{order_room, order_small}
use Prim.Native.Nat.{◌+◌, ◌<◌}
use lib.ListN.{get_or}
use native.Mathlib.Omega.{arith}
use mathlib.Core.Path.{sym, ap, ◌∙◌, subst}
use Rattle.engine.proofs.image.Code.rule_at.Goals as goal

pub overflow_add-o : goal.overflow_add-o
overflow_add-o c =
    omega (arith, order_room c.requires.order_fits c.args.rs c.requires.rs_bound, c.requires.k_bound, c.order_of.ensures)

pub offset_bounds-order-o : goal.offset_bounds-order-o
offset_bounds-order-o c =
    omega (arith, order_room c.requires.order_fits c.args.rs c.requires.rs_bound, c.requires.k_bound, c.order_of.ensures)

pub bounds-order-o : goal.bounds-order-o
bounds-order-o c =
    omega (arith, order_room c.requires.order_fits c.args.rs c.requires.rs_bound, c.requires.k_bound, c.order_of.ensures)

pub half-requires : goal.half-requires
half-requires c =
    let n =
    subst (λ x. get_or c.args.order.now (x + c.args.k) 0 < (program c.args.self.now.image.now).count c.args.rs)
    (sym c.order_of.ensures)
    (order_small c.requires.order_fits c.args.rs c.requires.rs_bound c.args.k c.requires.k_bound) in
    omega (arith, c.args.self.now.tables c.args.rs c.requires.rs_bound, n)

pub returns : goal.returns
returns c =
    let s = c.args.self.now in
    let e =
    c.half.ensures
    ∙ rule_at_lem s.imaged s.located c.args.rs c.requires.rs_bound _
    ∙ ap (λ x. (program s.image.now).rule c.args.rs (get_or c.args.order.now (x + c.args.k) 0)) c.order_of.ensures in
    (e, omega (arith, e, rule_small s.imaged c.args.rs _ c.requires.rs_bound (order_small c.requires.order_fits c.args.rs c.requires.rs_bound c.args.k c.requires.k_bound)))
