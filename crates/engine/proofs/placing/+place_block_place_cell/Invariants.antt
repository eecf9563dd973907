use mathlib.Core.Path.{◌≡◌}
use Prim.Native.Nat.{◌+◌, ◌-◌, ◌*◌, ◌≤◌}
use lib.ListN.{length}
use Rattle.engine.specs.Copies.{BlockHere}
use Rattle.engine.proofs.Copying.{Filling}
use Rattle.engine.proofs.placing.+place_block_place_cell.Given as goal

abbrev pub decreases-place_block : goal.decreases-place_block
decreases-place_block l = 2 * (length l.wires.now - l.from)

abbrev pub decreases-place_cell : goal.decreases-place_cell
decreases-place_cell l = 2 * (length l.wires.now - l.i) + 1

abbrev pub invariant-place_block-loop-k : goal.invariant-place_block-loop-k
invariant-place_block-loop-k l = (length l.heap ≡ length l.initial.heap)
    × (l.k ≤ l.n)
    × (l.from + 2 ≤ l.i)
    × ((b : BlockHere l.wires l.from l.hp l.end (length l.initial.heap)) → Filling l.wires b.values (l.from + 2) l.hp l.base l.end l.initial.heap l.k l.i l.top l.heap)

abbrev pub decreases-place_block-loop-k : goal.decreases-place_block-loop-k
decreases-place_block-loop-k l = l.n - l.k
