use mathlib.Core.Path.{refl, ◌∙◌}
use native.Mathlib.Omega.{arith}
use native.Mathlib.Nat.{ne_of_gt}
use Rattle.engine.proofs.Reading.{reads_ref, reads_inside, reads_fields, reads_first, fields_inside, spread_ends, none_over, none_spread, two_over, atom_spread, partly_none, partly_all, partly_over, partly_more}
use Rattle.engine.proofs.spreading.+spread_block_spread_cell.Goals as goal

pub spread_block-overflow_sub-p : goal.spread_block-overflow_sub-p
spread_block-overflow_sub-p t c = omega (arith, (reads_ref c.requires.readable c.requires.not_none).least)

pub spread_block-put_pair-requires : goal.spread_block-put_pair-requires
spread_block-put_pair-requires t c =
    record {
      i_in_bounds = omega (arith, reads_inside c.requires.readable c.requires.not_none);
      j_in_bounds = omega (arith, c.requires.at_bound, c.requires.end_in_bounds);
    }

pub spread_block-bounds-heap-p : goal.spread_block-bounds-heap-p
spread_block-bounds-heap-p t c = omega (arith, reads_inside c.requires.readable c.requires.not_none, c.well_formed)

pub spread_block-loop-i-init : goal.spread_block-loop-i-init
spread_block-loop-i-init t c =
    (omega arith, c.requires.at_bound, refl, λ k v e. partly_none k c.requires.not_none c.requires.tuple_header_bound (omega arith) (omega arith) e)

pub spread_block-bounds-heap-p-in-loop-i : goal.spread_block-bounds-heap-p-in-loop-i
spread_block-bounds-heap-p-in-loop-i t c =
    omega (arith, fields_inside (reads_fields c.requires.readable c.requires.not_none c.requires.tuple_header_bound), c.loop-i-test.true, c.well_formed)

pub spread_block-spread_cell-requires : goal.spread_block-spread_cell-requires
spread_block-spread_cell-requires t c = (
  omega (arith, c.decreases, c.requires.at_bound, c.loop-i.invariant.0),
  (
    reads_first (c.loop-i.invariant.3 c.requires.readable c.args.wires.now c.put_pair.ensures).rest (ne_of_gt (omega (arith, c.loop-i-test.true))),
    (c.loop-i.invariant.1, omega (arith, c.requires.end_in_bounds, c.loop-i.invariant.2, c.put_pair.auto.to)),
  ),
)

pub spread_block-returns-in_err-out : goal.spread_block-returns-in_err-out
spread_block-returns-in_err-out t c =
    λ k. rw c.from_residual.ensures (partly_over (c.loop-i.invariant.3 k c.args.wires.now c.put_pair.ensures) (ne_of_gt (omega (arith, c.loop-i-test.true))) c.spread_cell.ensures c.in_err-out.was)

pub spread_block-loop-i-preserved : goal.spread_block-loop-i-preserved
spread_block-loop-i-preserved t c =
    let first = reads_first (c.loop-i.invariant.3 c.requires.readable c.args.wires.now c.put_pair.ensures).rest (ne_of_gt (omega (arith, c.loop-i-test.true))) in
    let ends = spread_ends (c.spread_cell.ensures first) c.in_ok-out.was in (
      omega (arith, ends.0, c.loop-i.invariant.0),
      ends.1,
      c.spread_cell.auto.wires ∙ c.loop-i.invariant.2,
      λ k v e. partly_more (c.loop-i.invariant.3 k v e) (ne_of_gt (omega (arith, c.loop-i-test.true))) c.spread_cell.ensures (omega arith) (omega arith) c.in_ok-out.was,
    )

pub spread_block-returns : goal.spread_block-returns
spread_block-returns t c =
    λ k. partly_all (c.loop-i.invariant.3 k c.args.wires.now c.put_pair.ensures) (omega (arith, c.loop-i-test.false)) c.loop-i.invariant.1

pub spread_cell-returns-then-end-at : goal.spread_cell-returns-then-end-at
spread_cell-returns-then-end-at t c = λ k. none_over k c.args.wires.now c.requires.at_le_end c.if-end-at.true

pub spread_cell-returns-then-w-eq-NONE : goal.spread_cell-returns-then-w-eq-NONE
spread_cell-returns-then-w-eq-NONE t c = λ k. none_spread k c.args.wires.now c.if-end-at.false c.if-w-eq-NONE.true

pub spread_cell-returns-then-end-at-2 : goal.spread_cell-returns-then-end-at-2
spread_cell-returns-then-end-at-2 t c =
    λ k. two_over k c.args.wires.now c.if-w-eq-NONE.false c.requires.at_le_end c.if-end-at-2.true

pub spread_cell-overflow_sub-p : goal.spread_cell-overflow_sub-p
spread_cell-overflow_sub-p t c = omega (arith, (reads_ref c.requires.readable c.if-w-eq-NONE.false).least)

pub spread_cell-bounds-heap-p : goal.spread_cell-bounds-heap-p
spread_cell-bounds-heap-p t c = omega (arith, reads_inside c.requires.readable c.if-w-eq-NONE.false, c.well_formed)

pub spread_cell-put_pair-requires : goal.spread_cell-put_pair-requires
spread_cell-put_pair-requires t c =
    record {
      i_in_bounds = omega (arith, reads_inside c.requires.readable c.if-w-eq-NONE.false);
      j_in_bounds = omega (arith, c.if-end-at-2.false, c.requires.end_in_bounds);
    }

pub spread_cell-returns-then-heap-p-lt-TUPLE : goal.spread_cell-returns-then-heap-p-lt-TUPLE
spread_cell-returns-then-heap-p-lt-TUPLE t c =
    λ k. atom_spread k c.args.wires.now c.if-w-eq-NONE.false c.if-heap-p-lt-TUPLE.true c.if-end-at-2.false c.put_pair.ensures
