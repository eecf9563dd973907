use mathlib.Core.Path.{◌≡◌}
use lib.ListN.{length}
use Rattle.engine.specs.Turns.{buffers}
use Rattle.engine.specs.Running.{Going}
use Rattle.engine.specs.Underway.{Underway, calls}
use Rattle.engine.proofs.regs.Regs.run.Given as goal

abbrev pub invariant-loop-ending : goal.invariant-loop-ending
invariant-loop-ending l = ((u : Underway l.code.image.now l.code.card.now l.initial.s (buffers l.initial.stack l.initial.heap l.initial.wires l.initial.order)) → Going (calls l.code.image.now l.code.card.now u.limits u.lent) l.s (buffers l.stack l.heap l.wires l.order)) × (length l.stack ≡ length l.initial.stack) × (length l.heap ≡ length l.initial.heap) × (length l.wires ≡ length l.initial.wires) × (length l.order ≡ length l.initial.order)

abbrev pub decreases-loop-ending : goal.decreases-loop-ending
decreases-loop-ending l = l.s.left
