use Rattle.std.proofs.Common.{ℕ, ◌-◌, ◌≤◌, ◌<◌, length, take}
use Rattle.sheet.specs.Needed.{needed}
use Rattle.ham.proofs.collect.Given as goal

-- each byte that is there was asked for by those before it
abbrev pub invariant-loop-count : goal.invariant-loop-count
invariant-loop-count g l =
    record {
      within : l.count ≤ length l.input;
      asked : (k : ℕ) → k < l.count → k < needed (take k l.input);
    }

abbrev pub decreases-loop-count : goal.decreases-loop-count
decreases-loop-count g l = length l.initial.input - l.count
