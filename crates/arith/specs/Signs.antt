-- A magnitude with a sign, as an integer and as the word that holds it.
use Rattle.std.specs.Prelude.{Bool, true, false, ℕ, ℤ, pos, neg_ℤ}
use Rattle.hume.specs.Numbers.{wrap}

abbrev pub with_sign : Bool → ℕ → ℤ
with_sign true n = neg_ℤ (pos n)
with_sign false n = pos n

unfoldable pub signed : Bool → ℕ → ℕ
unfolding wrap
signed s n = wrap (with_sign s n)
