use Rattle.std.proofs.Common.{◌-◌, ◌≤◌, length}
use Rattle.ham.proofs.fill.Given as goal

abbrev pub invariant-loop-count : goal.invariant-loop-count
invariant-loop-count g l = l.count ≤ length l.part

abbrev pub decreases-loop-count : goal.decreases-loop-count
decreases-loop-count g l = length l.initial.part - l.count
