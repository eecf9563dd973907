use Rattle.engine.specs.Blocks.{Placed, from_top}
use Rattle.engine.proofs.builds.put_fields.Given as goal

abbrev pub invariant-loop-i : goal.invariant-loop-i
invariant-loop-i l = Placed l.initial.heap l.heap l.at l.i (from_top l.stack l.sp)
