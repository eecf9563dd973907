use Rattle.std.proofs.Common.{rules}
use native.Mathlib.Omega.{arith}
use Rattle.engine.proofs.Reading.{reads_ref, reads_inside, atom_spread, spread_least}
use Rattle.engine.proofs.spreading.spread.Goals as goal

pub overflow_sub-p : goal.overflow_sub-p
overflow_sub-p c = (reads_ref c.requires.readable c.requires.not_none).least

pub bounds-heap-p : goal.bounds-heap-p
bounds-heap-p c = omega (arith, reads_inside c.requires.readable c.requires.not_none)

pub put_pair-requires-clause-i_in_bounds : goal.put_pair-requires-clause-i_in_bounds
put_pair-requires-clause-i_in_bounds c = reads_inside c.requires.readable c.requires.not_none

pub returns-then-heap-p-lt-TUPLE : goal.returns-then-heap-p-lt-TUPLE
returns-then-heap-p-lt-TUPLE c =
    λ k. atom_spread k c.args.wires.now c.requires.not_none c.if-heap-p-lt-TUPLE.true (omega arith) c.put_pair.ensures

pub map-requires : goal.map-requires
map-requires c = λ x e. let least = spread_least (c.spread_block.ensures c.requires.readable) e in search rules
