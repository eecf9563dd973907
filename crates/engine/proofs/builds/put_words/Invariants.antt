use Rattle.engine.specs.Blocks.{Placed, from_place}
use Rattle.engine.proofs.builds.put_words.Given as goal

abbrev pub invariant-loop-i : goal.invariant-loop-i
invariant-loop-i l = Placed l.initial.stack l.stack l.at l.i (from_place l.heap l.from)
