use Rattle.std.proofs.Common.{◌≡◌, false, ℕ, ◌<◌, length, get_or, take}
use Rattle.hume.specs.Refusals.{among}
use Rattle.gate.proofs.order.permutation_ok.Given as goal

abbrev pub invariant-loop-x : goal.invariant-loop-x
invariant-loop-x l =
    record {
      long : length l.seen ≡ 16;
      low : (j : ℕ) → j < l.x-index → get_or l.s j 0 < length l.s;
      once : (j : ℕ) → j < l.x-index → among (get_or l.s j 0) (take j l.s) ≡ false;
      marked : (y : ℕ) → y < 16 → get_or l.seen y false ≡ among y (take l.x-index l.s);
    }
