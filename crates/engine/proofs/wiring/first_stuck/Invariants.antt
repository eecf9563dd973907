use Prim.Native.Nat.{ℕ, ◌<◌}
use Rattle.engine.specs.Copies.{Stuck}
use Rattle.engine.proofs.wiring.first_stuck.Given as goal

abbrev pub invariant-loop-i : goal.invariant-loop-i
invariant-loop-i l = (k : ℕ) → k < l.i → Stuck l.stack l.sp l.wires l.inputs k → ⊥
