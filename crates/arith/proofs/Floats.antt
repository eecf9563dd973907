-- Patterns and floats: there is one NaN, and it is stored as 7FC00000.
use mathlib.Core.Path.{◌≡◌, refl, sym, ◌∙◌}
use mathlib.Core.Bool.{true}
use Prim.Native.Nat.{ℕ, ◌%◌, ◌^◌}
use lib.Dec.{ltb}
use lib.Ieee.{Float, nan, inf, fin, binary32, of_bits, nan_bits, is_nan}
use lib.Ieee.Bits.{nan_bits_is, nan_bits_above}
use Rattle.hume.specs.Numbers.{float, stored}

pub nan_above : (a : ℕ) → nan_bits binary32 a ≡ ltb 0x7F800000 (a % 2 ^ 31)
nan_above a = nan_bits_above binary32 a

is_nan_lem : (x : Float) → is_nan x ≡ true → x ≡ nan
unfolding is_nan
is_nan_lem nan e = refl
is_nan_lem (inf s) e = cc
is_nan_lem (fin s m d) e = cc

one_nan : of_bits binary32 0x7FC00000 ≡ nan
unfolding of_bits
one_nan = refl

pub float_nan : (a : ℕ) → nan_bits binary32 a ≡ true → of_bits binary32 0x7FC00000 ≡ float a
unfolding float
float_nan a e = one_nan ∙ sym (is_nan_lem (of_bits binary32 a) (sym (nan_bits_is binary32 a) ∙ e))

pub stored_nan : (x : Float) → is_nan x ≡ true → 0x7FC00000 ≡ stored x
unfolding stored
stored_nan x e = rw (is_nan_lem x e) refl
