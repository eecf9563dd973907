use native.Mathlib.Omega.{arith}
use Rattle.engine.proofs.Copying.{count_none, count_cell, count_end}
use Rattle.engine.proofs.placing.count_words.Goals as goal

pub loop-i-preserved-then-wires-from-eq-NONE_CELL : goal.loop-i-preserved-then-wires-from-eq-NONE_CELL
loop-i-preserved-then-wires-from-eq-NONE_CELL c =
    (omega (arith, c.loop-i.invariant.0), omega (arith, c.loop-i-test.true), count_none c.args.wires.now c.args.from c.args.k c.loop-i.i c.loop-i.n c.requires.k_in_bounds c.loop-i-test.true c.if-wires-from-eq-NONE_CELL.true c.loop-i.invariant.2)

pub loop-i-preserved : goal.loop-i-preserved
loop-i-preserved c =
    (omega (arith, c.loop-i.invariant.0), omega (arith, c.loop-i-test.true), count_cell c.args.wires.now c.args.from c.args.k c.loop-i.i c.loop-i.n c.requires.k_in_bounds c.loop-i-test.true c.if-wires-from-eq-NONE_CELL.false c.loop-i.invariant.2)

pub returns : goal.returns
returns c =
    let e = count_end c.args.wires.now c.args.from c.args.k c.loop-i.i c.loop-i.n c.requires.k_in_bounds c.loop-i-test.false c.loop-i.invariant.2 in
    let o = c.requires.le_k in
    omega arith
