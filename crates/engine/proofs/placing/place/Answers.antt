use mathlib.Core.Path.{refl}
use native.Mathlib.Omega.{arith}
use Rattle.engine.proofs.Copying.{cell_inside, cell_inside_2, cell_none, cell_two, cell_atom, cell_block, cell_placed, value_placed}
use Rattle.engine.proofs.placing.place.Goals as goal

pub offset_bounds-wires-i : goal.offset_bounds-wires-i
offset_bounds-wires-i c = omega (arith, cell_inside c.requires.cell, c.well_formed)

pub bounds-wires-i : goal.bounds-wires-i
bounds-wires-i c = cell_inside c.requires.cell

pub returns-then-h-eq-NONE_CELL : goal.returns-then-h-eq-NONE_CELL
returns-then-h-eq-NONE_CELL c = λ k. value_placed k refl (cell_none k.cell c.if-h-eq-NONE_CELL.true _)

pub put_pair-requires : goal.put_pair-requires
put_pair-requires c =
    record {
      i_in_bounds = cell_inside_2 c.requires.cell c.if-h-eq-NONE_CELL.false;
      j_in_bounds = omega (arith, cell_two c.requires.cell c.if-h-lt-TUPLE.true, c.requires.cell.inside);
    }

pub returns-then-h-lt-TUPLE : goal.returns-then-h-lt-TUPLE
returns-then-h-lt-TUPLE c =
    λ k. rw c.put_pair.ensures (value_placed k refl (cell_atom k.cell c.if-h-lt-TUPLE.true _ refl))

pub place_block-requires : goal.place_block-requires
place_block-requires c = cell_block c.requires.cell c.if-h-eq-NONE_CELL.false c.if-h-lt-TUPLE.false

pub returns : goal.returns
returns c =
    λ k. value_placed k refl (cell_placed k.cell c.if-h-eq-NONE_CELL.false c.if-h-lt-TUPLE.false c.place_block.ensures)
