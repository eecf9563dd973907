use mathlib.Core.Path.{refl, ◌∙◌}
use native.Mathlib.Omega.{arith}
use lib.ListN.{length, length-set}
use Rattle.engine.proofs.Copying.{cell_inside, cell_inside_2, cell_none, cell_two, cell_atom, cell_block, cell_placed, block_inside, block_many, block_done, fill_none, fill_top, fill_cell, fill_next}
use Rattle.engine.proofs.placing.+place_block_place_cell.Goals as goal

pub place_block-bounds-wires-from : goal.place_block-bounds-wires-from
place_block-bounds-wires-from t c =
    let b = c.requires in
    omega (arith, block_inside b)

pub place_block-loop-k-init : goal.place_block-loop-k-init
place_block-loop-k-init t c = (refl, omega arith, omega arith, λ b. fill_none b _ _)

pub place_block-place_cell-cell-requires : goal.place_block-place_cell-cell-requires
place_block-place_cell-cell-requires t c =
    let b = c.requires in
    let inv = c.loop-k.invariant in
    let many = block_many b in
    let more = c.loop-k-test.true in
    let cell = fill_cell (inv.3 b) (length c.loop-k.heap) (omega (arith, b.fits)) (omega (arith, b.low)) (omega (arith, b.inside, inv.0)) (omega (arith, more)) in
    (omega (arith, c.decreases, inv.2, cell_inside cell), cell)

pub place_block-loop-k-preserved : goal.place_block-loop-k-preserved
place_block-loop-k-preserved t c =
    let b = c.requires in
    let inv = c.loop-k.invariant in
    let many = block_many b in
    let more = c.loop-k-test.true in
    let same = c.place_cell-cell.auto.heap in
    let cell = fill_cell (inv.3 b) (length c.loop-k.heap) (omega (arith, b.fits)) (omega (arith, b.low)) (omega (arith, b.inside, inv.0)) (omega (arith, more)) in
    let next = (c.place_cell-cell.ensures cell).next_is in (
      simp length-set (same ∙ inv.0),
      omega (arith, more),
      omega (arith, inv.2),
      λ k.
          let n = block_many k in
          fill_next (inv.3 k) (length c.loop-k.heap) (omega (arith, k.fits)) (omega (arith, k.low)) (omega (arith, k.inside, inv.0)) (omega (arith, more))
          (omega (arith, k.fits)) (omega (arith, k.inside, inv.0)) same c.place_cell-cell.ensures,
    )

pub place_block-put_pair-requires : goal.place_block-put_pair-requires
place_block-put_pair-requires t c =
    let b = c.requires in
    let inv = c.loop-k.invariant in
    let many = block_many b in
    record {
      i_in_bounds = block_inside b;
      j_in_bounds = omega (arith, fill_top (inv.3 b), b.fits, b.inside, inv.0);
    }

pub place_block-overflow_add-top : goal.place_block-overflow_add-top
place_block-overflow_add-top t c =
    let b = c.requires in
    let inv = c.loop-k.invariant in
    let many = block_many b in
    let same = c.put_pair.auto.to in
    omega (arith, fill_top (inv.3 b), b.fits, b.low)

pub place_block-move_down-requires : goal.place_block-move_down-requires
place_block-move_down-requires t c =
    let b = c.requires in
    let inv = c.loop-k.invariant in
    let many = block_many b in
    let same = c.put_pair.auto.to in
    record {
      to_le_from = omega (arith, fill_top (inv.3 b), b.fits);
      n_in_bounds = omega (arith, b.fits, b.inside, inv.0, same);
    }

pub place_block-overflow_add-result : goal.place_block-overflow_add-result
place_block-overflow_add-result t c =
    let b = c.requires in
    let inv = c.loop-k.invariant in
    let many = block_many b in
    omega (arith, fill_top (inv.3 b), b.fits, b.low)

pub place_block-overflow_add-result-2 : goal.place_block-overflow_add-result-2
place_block-overflow_add-result-2 t c =
    let b = c.requires in
    let inv = c.loop-k.invariant in
    let many = block_many b in
    omega (arith, fill_top (inv.3 b), b.fits, b.low)

pub place_block-overflow_cast-result : goal.place_block-overflow_cast-result
place_block-overflow_cast-result t c =
    let b = c.requires in
    let inv = c.loop-k.invariant in
    let many = block_many b in
    omega (arith, fill_top (inv.3 b), b.fits, b.low)

pub place_block-overflow_add-result-3 : goal.place_block-overflow_add-result-3
place_block-overflow_add-result-3 t c =
    let b = c.requires in
    let many = block_many b in
    omega (arith, fill_top (c.loop-k.invariant.3 b), b.fits, b.low)

pub place_block-returns : goal.place_block-returns
place_block-returns t c =
    let b = c.requires in
    let inv = c.loop-k.invariant in
    let many = block_many b in
    let over = c.loop-k-test.false in
    λ k.
    let n = block_many k in
    block_done k (inv.3 k) (omega (arith, inv.1, over)) (omega (arith, k.fits)) inv.0 c.put_pair.ensures c.move_down.ensures

pub place_cell-offset_bounds-wires-i : goal.place_cell-offset_bounds-wires-i
place_cell-offset_bounds-wires-i t c =
    let k = c.requires in
    omega (arith, cell_inside k, c.well_formed)

pub place_cell-bounds-wires-i : goal.place_cell-bounds-wires-i
place_cell-bounds-wires-i t c =
    let k = c.requires in
    cell_inside k

pub place_cell-returns-then-h-eq-NONE_CELL : goal.place_cell-returns-then-h-eq-NONE_CELL
place_cell-returns-then-h-eq-NONE_CELL t c = λ k. cell_none k c.if-h-eq-NONE_CELL.true _

pub place_cell-put_pair-requires : goal.place_cell-put_pair-requires
place_cell-put_pair-requires t c =
    let k = c.requires in
    record {
      i_in_bounds = cell_inside_2 k c.if-h-eq-NONE_CELL.false;
      j_in_bounds = omega (arith, cell_two k c.if-h-lt-TUPLE.true, k.inside);
    }

pub place_cell-overflow_add-result-then-h-lt-TUPLE : goal.place_cell-overflow_add-result-then-h-lt-TUPLE
place_cell-overflow_add-result-then-h-lt-TUPLE t c =
    let k = c.requires in
    omega (arith, cell_inside_2 k c.if-h-eq-NONE_CELL.false, c.well_formed)

pub place_cell-returns-then-h-lt-TUPLE : goal.place_cell-returns-then-h-lt-TUPLE
place_cell-returns-then-h-lt-TUPLE t c = λ k. rw c.put_pair.ensures (cell_atom k c.if-h-lt-TUPLE.true _ refl)

pub place_cell-place_block-requires : goal.place_cell-place_block-requires
place_cell-place_block-requires t c =
    let k = c.requires in
    (omega (arith, c.decreases, cell_inside k), cell_block k c.if-h-eq-NONE_CELL.false c.if-h-lt-TUPLE.false)

pub place_cell-returns : goal.place_cell-returns
place_cell-returns t c = λ k. cell_placed k c.if-h-eq-NONE_CELL.false c.if-h-lt-TUPLE.false c.place_block.ensures
