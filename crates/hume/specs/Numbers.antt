-- Document 01, "Primitives": integers of 32 bits in two's complement and IEEE 754 binary32 floats, each held as its bits.
use Rattle.std.specs.Prelude.{Bool, true, false, cond, ℕ, suc, ◌-◌, ◌*◌, ◌/◌, ◌%◌, ◌^◌, leb, ltb, ℤ, pos, negsuc, neg_ℤ, ◌+ℤ◌, ◌-ℤ◌, ◌*ℤ◌, Float}
use Rattle.std.specs.Int.Signed.{quot_z, rem_z, lt_z, le_z}
use Rattle.std.specs.Float.Ieee as Ieee
use Rattle.std.specs.Float.{nan, inf, fin, binary32}
use Rattle.std.specs.Float.Ieee.{of_bits, to_bits, up, down}
use Rattle.std.proofs.Math.Option.{Option, none, some}

-- ---- integers

-- the integer that 32 bits hold
unfoldable pub int : ℕ → ℤ
int a = cond (ltb a (2 ^ 31)) (pos a) (negsuc (2 ^ 32 - suc a))

-- "Integers wrap at 32 bits"
unfoldable pub wrap : ℤ → ℕ
wrap (pos n) = n % 2 ^ 32
wrap (negsuc n) = 2 ^ 32 - suc (n % 2 ^ 32)

unfoldable pub add_int : ℕ → ℕ → ℕ
unfolding int wrap
add_int x y = wrap (int x +ℤ int y)

unfoldable pub sub_int : ℕ → ℕ → ℕ
unfolding int wrap
sub_int x y = wrap (int x -ℤ int y)

unfoldable pub mul_int : ℕ → ℕ → ℕ
unfolding int wrap
mul_int x y = wrap (int x *ℤ int y)

-- "div goes toward zero"; "-2^31 div -1 is -2^31", by wrapping
unfoldable pub div_int : ℕ → ℕ → ℕ
unfolding int wrap
div_int x y = wrap (quot_z (int x) (int y))

-- "mod has the dividend's sign"; "-2^31 .. mod 0"
unfoldable pub mod_int : ℕ → ℕ → ℕ
unfolding int wrap
mod_int x y = wrap (rem_z (int x) (int y))

unfoldable pub lt_int : ℕ → ℕ → Bool
unfolding int
lt_int x y = lt_z (int x) (int y)

unfoldable pub le_int : ℕ → ℕ → Bool
unfolding int
le_int x y = le_z (int x) (int y)

-- ---- floats: "IEEE 754 binary32, rounded once"; `to_bits` writes every NaN as 7FC00000

unfoldable pub float : ℕ → Float
unfolding of_bits
float x = of_bits binary32 x

-- "any NaN stored is 7FC00000"
unfoldable pub stored : Float → ℕ
unfolding to_bits
stored v = to_bits binary32 v

-- the bits of a float in an instruction, a NaN read as 7FC00000
unfoldable pub canonical : ℕ → ℕ
canonical x = cond (ltb 0x7F800000 (x % 2 ^ 31)) 0x7FC00000 x

unfoldable pub add_float : ℕ → ℕ → ℕ
unfolding float stored Ieee.add
add_float x y = stored (Ieee.add binary32 (float x) (float y))

unfoldable pub sub_float : ℕ → ℕ → ℕ
unfolding float stored Ieee.sub
sub_float x y = stored (Ieee.sub binary32 (float x) (float y))

unfoldable pub mul_float : ℕ → ℕ → ℕ
unfolding float stored Ieee.mul
mul_float x y = stored (Ieee.mul binary32 (float x) (float y))

unfoldable pub div_float : ℕ → ℕ → ℕ
unfolding float stored Ieee.div
div_float x y = stored (Ieee.div binary32 (float x) (float y))

unfoldable pub eq_float : ℕ → ℕ → Bool
unfolding float Ieee.eq
eq_float x y = Ieee.eq (float x) (float y)

unfoldable pub lt_float : ℕ → ℕ → Bool
unfolding float Ieee.lt
lt_float x y = Ieee.lt (float x) (float y)

unfoldable pub le_float : ℕ → ℕ → Bool
unfolding float Ieee.le
le_float x y = Ieee.le (float x) (float y)

-- "toFloat.i rounds to nearest, ties to even"
unfoldable pub to_float : ℕ → ℕ
unfolding int stored Ieee.of_int
to_float x = stored (Ieee.of_int binary32 (int x))

-- "toInt.f drops the fraction": the magnitude m with its sign, where it is "-2^31..2^31-1"
unfoldable pub in_range : Bool → ℕ → Option ℕ
unfolding wrap
in_range true m = cond (leb m (2 ^ 31)) (some (wrap (neg_ℤ (pos m)))) none
in_range false m = cond (ltb m (2 ^ 31)) (some m) none

-- "NaN or outside -2^31..2^31-1 raises exception 2": none
unfoldable pub truncated : Float → Option ℕ
unfolding in_range
truncated nan = none
truncated (inf s) = none
truncated (fin s m e) = in_range s (m * up e / down e)

unfoldable pub to_int : ℕ → Option ℕ
unfolding float truncated
to_int x = truncated (float x)
