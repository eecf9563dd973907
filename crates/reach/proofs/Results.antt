-- What instructions and primitives store as payloads fits the headers that they give.
use mathlib.Core.Path.{◌≡◌, sym, ap, ◌∙◌, subst}
use mathlib.Core.Bool.{Bool, true, false, not, cond, ◌&&◌, ◌||◌}
use mathlib.Core.Option.{Option, none, some}
use Prim.Native.Nat.{ℕ, ◌-◌, ◌*◌, ◌/◌, ◌%◌, ◌^◌, ◌≤◌, ◌<◌}
use native.Mathlib.Omega.{arith}
use lib.Dec.{T, leb, ltb, eqb, le→leb, lt→ltb, nltb→le, not_T, ltb→lt, lit<}
use lib.Ieee as Ieee
use lib.Ieee.{Float, nan, inf, fin, binary32, to_bits, fits, is_nan, up, down}
use lib.IntN.{ℤ, pos, negsuc, neg_ℤ, ◌+ℤ◌, ◌-ℤ◌, ◌*ℤ◌}
use lib.Signed.{quot_z, rem_z}
use lib.Ieee.Fits.{add-fits, sub-fits, mul-fits, div-fits, of_int-fits}
use lib.Ieee.Bits.{of_bits-to_bits, nan_bits_is, nan_bits_above, to_bits-lt}
use Rattle.hume.specs.Tests.{pick}
use Rattle.hume.specs.Words.{bool_header, int_header, float_header}
use Rattle.hume.specs.Values.{atom_ok}
use Rattle.hume.specs.Numbers.{int, wrap, add_int, sub_int, mul_int, div_int, mod_int, lt_int, le_int, in_range, truncated, to_int}
use Rattle.hume.specs.Numbers.{float, stored, canonical, add_float, sub_float, mul_float, div_float, eq_float, lt_float, le_float, to_float}
use Rattle.hume.specs.Primitives.{Yield, value, raises, Primitive, truth, is_true, divided, converted, one_operand, two_operands, no_primitive, prim1, prim2}
use Rattle.laws.proofs.Tests.{or_left}
use Rattle.reach.proofs.Tables.{Table, end, ◌&◌, table_all}

-- ---- payloads

-- A Bool is 0 or 1.
pub bool_ok : (x : ℕ) → x < 2 → T (atom_ok bool_header x)
unfolding atom_ok
bool_ok x h = or_left (ltb x 2) _ (lt→ltb x 2 h)

-- An Int is any number.
pub int_ok : (x : ℕ) → T (atom_ok int_header x)
unfolding atom_ok
int_ok x = tt

-- no bits of a NaN
number_ok : (x : ℕ) → x % 2 ^ 31 ≤ 0x7F800000 → T (atom_ok float_header x)
unfolding atom_ok
number_ok x h = or_left (leb (x % 2 ^ 31) 0x7F800000) _ (le→leb (x % 2 ^ 31) 0x7F800000 h)

not_above : (a b : ℕ) → (T (ltb a b) → ⊥) → b ≤ a
not_above a b k = nltb→le a b (not_T (ltb a b) k)

-- A float in an instruction, a NaN read as 7FC00000.
pub canonical_ok : (x : ℕ) → T (atom_ok float_header (canonical x))
unfolding canonical atom_ok
canonical_ok x = by (ltb 0x7F800000 (x % 2 ^ 31)) (λ k. not_above 0x7F800000 (x % 2 ^ 31) k)
  where
    by : (b : Bool) → ((T b → ⊥) → x % 2 ^ 31 ≤ 0x7F800000) → T (atom_ok float_header (cond b 0x7FC00000 x))
    by true h = tt
    by false h = number_ok x (h (λ t. t))

bits_ok : (v : Float) → T (fits binary32 v) → (T (is_nan v) → ⊥) → T (atom_ok float_header (to_bits binary32 v))
bits_ok v f k =
    let n = to_bits binary32 v in
    let e : ltb 0x7F800000 (n % 2 ^ 31) ≡ is_nan v =
    sym (nan_bits_above binary32 n) ∙ nan_bits_is binary32 n ∙ ap is_nan (of_bits-to_bits binary32 v f) in
    number_ok n (not_above 0x7F800000 (n % 2 ^ 31) (λ t. k (subst T e t)))

-- A float that the format holds, written as its bits.
pub stored_ok : (v : Float) → T (fits binary32 v) → T (atom_ok float_header (stored v))
unfolding stored to_bits atom_ok is_nan
stored_ok nan f = tt
stored_ok (inf s) f = bits_ok (inf s) f (λ t. t)
stored_ok (fin s m e) f = bits_ok (fin s m e) f (λ t. t)

-- ---- 32 bits

wrap_lt : (z : ℤ) → wrap z < 2 ^ 32
unfolding wrap
wrap_lt (pos n) = omega arith
wrap_lt (negsuc n) = omega arith

-- a number that is there is one of 32 bits
abbrev Within : Option ℕ → Type 0
Within none = Unit {0}
Within (some n) = n < 2 ^ 32

in_range_lt : (s : Bool) (m : ℕ) → Within (in_range s m)
unfolding in_range
in_range_lt true m = by (leb m (2 ^ 31))
  where
    by : (b : Bool) → Within (cond b (some (wrap (neg_ℤ (pos m)))) none)
    by true = wrap_lt (neg_ℤ (pos m))
    by false = tt
in_range_lt false m = by (ltb m (2 ^ 31)) (ltb→lt m (2 ^ 31))
  where
    by : (b : Bool) → (T b → m < 2 ^ 31) → Within (cond b (some m) none)
    by true h = let l : m < 2 ^ 31 = h tt in omega arith
    by false h = tt

to_int_lt : (x : ℕ) → Within (to_int x)
unfolding to_int
to_int_lt x = by (float x)
  where
    by : (v : Float) → Within (truncated v)
    by nan = tt
    by (inf s) = tt
    by (fin s m e) = in_range_lt s (m * up e / down e)

-- ---- primitives

-- a result fits the header h and 32 bits; an exception's number is one of 16 bits
abbrev pub YieldOk : ℕ → Yield → Type 0
YieldOk h (value x) = T (atom_ok h x) × (x < 2 ^ 32)
YieldOk h (raises e) = e < 65536

-- so whatever its operands
abbrev pub PrimitiveOk : Primitive → Type 0
PrimitiveOk p = (x y : ℕ) → YieldOk p.gives (p.yields x y)

truths : (f : ℕ → ℕ → Bool) (x y : ℕ) → YieldOk bool_header (value (truth (f x y)))
unfolding atom_ok
truths f x y = by (f x y)
  where
    by : (b : Bool) → YieldOk bool_header (value (truth b))
    by true = (tt, lit< tt)
    by false = (tt, lit< tt)

wraps : (z : ℤ) → YieldOk int_header (value (wrap z))
wraps z = (int_ok (wrap z), wrap_lt z)

divided_ok : (f : ℕ → ℕ → ℤ) (x y : ℕ) → YieldOk int_header (divided (λ a b. wrap (f a b)) x y)
unfolding divided pick
divided_ok f x y = by (eqb y 0)
  where
    by : (b : Bool) → YieldOk int_header (pick b (raises 1) (value (wrap (f x y))))
    by true = lit< tt
    by false = wraps (f x y)

converted_ok : (o : Option ℕ) → Within o → YieldOk int_header (converted o)
unfolding converted
converted_ok none h = lit< tt
converted_ok (some n) h = (int_ok n, h)

floats_ok : (v : Float) → T (fits binary32 v) → YieldOk float_header (value (stored v))
unfolding stored
floats_ok v f = (stored_ok v f, to_bits-lt binary32 v f)

ones : Table (λ n p. PrimitiveOk p) 0 one_operand
unfolding one_operand to_float
ones =
    truths (λ x y. not (is_true x))
    & (λ x y. floats_ok (Ieee.of_int binary32 (int x)) (of_int-fits binary32 (int x)))
    & (λ x y. converted_ok (to_int x) (to_int_lt x))
    & end

twos : Table (λ n p. PrimitiveOk p) 0 two_operands
unfolding two_operands add_int sub_int mul_int div_int mod_int add_float sub_float mul_float div_float
twos =
    truths (λ x y. eqb x y)
    & truths (λ x y. not (eqb x y))
    & truths (λ x y. le_int y x)
    & truths (λ x y. lt_int y x)
    & truths (λ x y. le_int x y)
    & truths (λ x y. lt_int x y)
    & (λ x y. wraps (int x +ℤ int y))
    & (λ x y. wraps (int x -ℤ int y))
    & (λ x y. wraps (int x *ℤ int y))
    & divided_ok (λ x y. quot_z (int x) (int y))
    & divided_ok (λ x y. rem_z (int x) (int y))
    & truths (λ x y. is_true x && is_true y)
    & truths (λ x y. is_true x || is_true y)
    & truths (λ x y. eq_float x y)
    & truths (λ x y. le_float y x)
    & truths (λ x y. lt_float y x)
    & truths (λ x y. le_float x y)
    & truths (λ x y. lt_float x y)
    & (λ x y. floats_ok (Ieee.add binary32 (float x) (float y)) (add-fits binary32 (float x) (float y)))
    & (λ x y. floats_ok (Ieee.sub binary32 (float x) (float y)) (sub-fits binary32 (float x) (float y)))
    & (λ x y. floats_ok (Ieee.mul binary32 (float x) (float y)) (mul-fits binary32 (float x) (float y)))
    & (λ x y. floats_ok (Ieee.div binary32 (float x) (float y)) (div-fits binary32 (float x) (float y)))
    & end

default_ok : PrimitiveOk no_primitive
default_ok x y = (bool_ok 0 (lit< tt), lit< tt)

-- Each primitive of one operand,
pub prim1_ok : (a : ℕ) → PrimitiveOk (prim1 a)
unfolding prim1
prim1_ok a = table_all PrimitiveOk no_primitive default_ok one_operand 0 ones (a - 1)

-- and each of two, gives what its header says.
pub prim2_ok : (a : ℕ) → PrimitiveOk (prim2 a)
unfolding prim2
prim2_ok a = table_all PrimitiveOk no_primitive default_ok two_operands 0 twos (a - 1)
