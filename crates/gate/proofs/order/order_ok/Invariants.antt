use Rattle.std.proofs.Common.{◌≡◌, true, ℕ, ◌+◌, ◌≤◌, ◌<◌}
use Rattle.hume.specs.Image.{program}
use Rattle.hume.specs.Refusals.{permutation, order_of}
use Rattle.gate.specs.Parts.{start_at}
use Rattle.gate.proofs.Lent.{Part}
use Rattle.gate.proofs.order.order_ok.Given as goal

abbrev pub invariant-loop-r : goal.invariant-loop-r
invariant-loop-r l =
    record {
      few : l.rulesets ≤ 32;
      parts : (j : ℕ) → j < l.rulesets
          → Part (program l.image) l.order (start_at l.starts j).order (start_at l.starts (j + 1)).order j;
      passed : (j : ℕ) → j < l.r → permutation ((program l.image).count j) (order_of (program l.image) l.order j) ≡ true;
    }
