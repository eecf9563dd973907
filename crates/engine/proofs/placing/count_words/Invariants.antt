use mathlib.Core.Path.{◌≡◌}
use Prim.Native.Nat.{◌+◌, ◌-◌, ◌≤◌}
use lib.ListN.{take, drop}
use Rattle.laws.specs.Sizes.{heads}
use Rattle.engine.proofs.placing.count_words.Given as goal

abbrev pub invariant-loop-i : goal.invariant-loop-i
invariant-loop-i l = (l.n ≤ l.i) × (l.i ≤ l.k + 1) × (l.n + heads (drop l.i (take l.k (drop l.from l.wires))) ≡ heads (take l.k (drop l.from l.wires)))

abbrev pub decreases-loop-i : goal.decreases-loop-i
decreases-loop-i l = l.k - l.i
