-- The bits of a number rounded to a float, the sign's bit left out.
use Rattle.std.specs.Prelude.{◌≡◌, Bool, cond, ℕ, ◌+◌, ◌^◌, ◌<◌}
use Rattle.std.specs.Float.{binary32}
use Rattle.std.specs.Float.Ieee.{round}
use Rattle.hume.specs.Numbers.{stored}

pub record Nearest (n r : ℕ) : Type 0 where
  pub small : r < 2 ^ 31
  pub bits : (s : Bool) → cond s (2 ^ 31) 0 + r ≡ stored (round binary32 s n 1)
