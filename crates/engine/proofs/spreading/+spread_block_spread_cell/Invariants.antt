use mathlib.Core.Path.{◌≡◌}
use mathlib.Core.List.{List}
use Prim.Native.Nat.{ℕ, ◌+◌, ◌-◌, ◌*◌, ◌≤◌}
use lib.ListN.{length, get_or, set}
use Rattle.engine.specs.Copies.{Readable}
use Rattle.engine.proofs.Reading.{Partly}
use Rattle.engine.proofs.spreading.+spread_block_spread_cell.Given as goal

abbrev pub decreases-spread_block : goal.decreases-spread_block
decreases-spread_block l = 2 * (l.end - l.at)

abbrev pub decreases-spread_cell : goal.decreases-spread_cell
decreases-spread_cell l = 2 * (l.end - l.at) + 1

-- v is what the wires were before the block's first two words
abbrev pub invariant-spread_block-loop-i : goal.invariant-spread_block-loop-i
invariant-spread_block-loop-i l = (l.at + 2 ≤ l.out)
    × (l.out ≤ l.end)
    × (length l.wires ≡ length l.initial.wires)
    × ((k : Readable l.heap l.w) (v : List ℕ) → l.initial.wires ≡ set (set v l.at (get_or l.heap l.p 0)) (l.at + 1) (get_or l.heap (l.p + 1) 0)
    → Partly k (l.p + 2 + l.i) (l.n - l.i) l.at v l.out l.wires)

abbrev pub decreases-spread_block-loop-i : goal.decreases-spread_block-loop-i
decreases-spread_block-loop-i l = l.n - l.i
