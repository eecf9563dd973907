use Rattle.std.proofs.Common.{◌≡◌, ℕ, ◌+◌, ◌*◌, ◌≤◌, ◌<◌, length}
use Rattle.hume.specs.Image.{program, ruleset_at, order_at}
use Rattle.gate.specs.Parts.{start_at}
use Rattle.gate.proofs.layout.Given as goal

abbrev pub invariant-loop-k : goal.invariant-loop-k
invariant-loop-k l =
    record {
      long : length l.starts ≡ 33;
      begins : (j : ℕ) → j < l.k + 1 → (start_at l.starts j).image ≡ ruleset_at l.image j;
      ordered : (j : ℕ) → j < l.k + 1 → (start_at l.starts j).order ≡ order_at (program l.image) j;
      image_low : (start_at l.starts l.k).image ≤ 11 + 513 * l.k;
      order_low : (start_at l.starts l.k).order ≤ 255 * l.k;
    }
