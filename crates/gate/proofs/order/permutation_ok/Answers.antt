use Rattle.std.proofs.Common.{◌<◌, false, true, get_or, length-set, sym, ◌∙◌, arith, below_none, below_more}
use lib.ListN.{get_or-replicate}
use Rattle.hume.specs.Refusals.{among}
use Rattle.gate.proofs.Lent.{order_high, order_twice, order_right, seen_more}
use Rattle.gate.proofs.order.permutation_ok.Goals as goal
use Rattle.gate.proofs.order.permutation_ok.Goals.{then-s-x-via-then-s-x, then-s-x-via-else-s-x+then-seen-x}

pub loop-x-init : goal.loop-x-init
unfolding among
loop-x-init c =
    record {
      long = omega arith;
      low = below_none _;
      once = below_none _;
      marked = λ y h. get_or-replicate 16 y false false h;
    }

pub returns-then-s-x : goal.returns-then-s-x
returns-then-s-x c =
    let i = c.loop-x.x-index in
    elim c.then-s-x.branch [
      | then-s-x-via-then-s-x w ↦ sym (order_high c.args.s.now i c.loop-x-test.true w.if-s-x.true)
      | then-s-x-via-else-s-x+then-seen-x w ↦
          sym (order_twice c.args.s.now i c.loop-x-test.true
          (sym (c.loop-x.invariant.marked _ (omega (arith, w.if-s-x.false, c.requires))) ∙ w.if-seen-x.true))
    ]

pub loop-x-preserved : goal.loop-x-preserved
loop-x-preserved c =
    let old = c.loop-x.invariant in
    let i = c.loop-x.x-index in
    let low : get_or c.args.s.now i 0 < 16 = omega (arith, c.if-s-x.false, c.requires) in
    record {
      long = length-set c.loop-x.seen (get_or c.args.s.now i 0) true ∙ old.long;
      low = below_more _ _ old.low c.if-s-x.false;
      once = below_more _ _ old.once (sym (old.marked _ low) ∙ c.if-seen-x.false);
      marked = seen_more c.args.s.now i c.loop-x-test.true c.loop-x.seen (omega (arith, low, old.long)) old.marked;
    }

pub returns : goal.returns
returns c =
    sym (order_right c.args.s.now (λ j h. c.loop-x.invariant.low j (omega (arith, c.loop-x-test.false)))
    (λ j h. c.loop-x.invariant.once j (omega (arith, c.loop-x-test.false))))
