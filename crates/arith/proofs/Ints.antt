-- The integer primitives: document 01's integers of words, and what the library's methods make of the words.
use mathlib.Core.Path.{◌≡◌, refl, sym, ap, ◌∙◌}
use mathlib.Core.Bool.{Bool, true, false, not}
use Prim.Native.Nat.{ℕ, zero, suc, ◌+◌, ◌-◌, ◌*◌, ◌/◌, ◌%◌, ◌^◌, ◌≤◌, ◌<◌}
use native.Mathlib.Nat.{div-zero, mod-zero, div-le_self, mod-le}
use native.Mathlib.Decide.{dec_lt}
use native.Mathlib.Omega.{arith}
use lib.Dec.{leb}
use lib.IntN.{ℤ, pos, negsuc, neg_ℤ, nat_abs}
use lib.Signed.{non_neg, quot_z, rem_z}
use mir.Syntax.{w32}
use mir.Val.{to_z, of_z}
use borrow.Author.Tests.{lt-ltb, le-ltb, lt-leb, le-leb}
use Rattle.std.specs.Int.{int_wrap, int_wrapping_div}
use Rattle.std.proofs.lemmas.Int.{of_z-to_z, wrapping_add-bits, wrapping_sub-bits, wrapping_mul-bits}
use Rattle.hume.specs.Numbers.{int, wrap, add_int, sub_int, mul_int, div_int, mod_int}
use Rattle.arith.specs.Signs.{signed}

-- ---- the integer that a word holds: `cast_signed` makes it, and a proof sees it written and read back

pub read : (a : ℕ) (z : ℤ) → a < 2 ^ 32 → z ≡ to_z w32 a → to_z w32 (of_z w32 z) ≡ int a
unfolding int
read a z word e = rw e (ap (to_z w32) (of_z-to_z w32 a word))

-- by its sign: the word itself, or the integer below zero whose word it is
by_sign : (P : ℤ → Type 0) (a : ℕ) → a < 2 ^ 32 → (a < 2 ^ 31 → P (pos a)) → ((m : ℕ) → a + suc m ≡ 2 ^ 32 → 2 ^ 31 ≤ a → P (negsuc m)) → P (int a)
unfolding int
by_sign P a word low high = go (dec_lt a (2 ^ 31))
  where
    go : Dec (a < 2 ^ 31) → P (int a)
    go (yes h) = rw (lt-ltb a (2 ^ 31) h) (low h)
    go (no h) = rw (le-ltb a (2 ^ 31) (omega arith)) (high (2 ^ 32 - suc a) (omega arith) (omega arith))

-- its magnitude and whether it is below 0
magnitude_range : (a : ℕ) → a < 2 ^ 32 → nat_abs (int a) ≤ 2 ^ 31
magnitude_range a word = by_sign (λ x. nat_abs x ≤ 2 ^ 31) a word (λ h. omega arith) (λ m e h. omega arith)

pub below_is : (a : ℕ) → a < 2 ^ 32 → not (non_neg (int a)) ≡ leb (2 ^ 31) a
below_is a word = by_sign (λ x. not (non_neg x) ≡ leb (2 ^ 31) a) a word (λ h. sym (lt-leb (2 ^ 31) a h)) (λ m e h. sym (le-leb (2 ^ 31) a h))

-- ---- "Integers wrap at 32 bits": to the word that holds what is left of the integer

left_in : (z : ℤ) → of_z w32 (int_wrap w32 z) ≡ wrap z
unfolding int_wrap wrap
left_in (pos n) = of_z-to_z w32 (n % 2 ^ 32) (omega arith)
left_in (negsuc n) = of_z-to_z w32 (2 ^ 32 - 1 - n % 2 ^ 32) (omega arith) ∙ omega arith

wrapped : (n : ℕ) (z : ℤ) → n < 2 ^ 32 → to_z w32 n ≡ int_wrap w32 z → n ≡ wrap z
wrapped n z word e = sym (of_z-to_z w32 n word) ∙ ap (of_z w32) e ∙ left_in z

module _ (a b : ℕ) (ha : a < 2 ^ 32) (hb : b < 2 ^ 32) where
  pub add_is : (a + b) % 2 ^ 32 ≡ add_int a b
  unfolding add_int
  add_is = wrapped _ _ (omega arith) (wrapping_add-bits w32 a b ha hb)

  pub sub_is : (a + (2 ^ 32 - b)) % 2 ^ 32 ≡ sub_int a b
  unfolding sub_int
  sub_is = wrapped _ _ (omega arith) (wrapping_sub-bits w32 a b ha hb)

  pub mul_is : a * b % 2 ^ 32 ≡ mul_int a b
  unfolding mul_int
  mul_is = wrapped _ _ (omega arith) (wrapping_mul-bits w32 a b ha hb)

-- an integer whose magnitude fits, as the word that `cast_unsigned` makes of it
fitting : (z : ℤ) → nat_abs z ≤ 2 ^ 31 → of_z w32 (to_z w32 (of_z w32 z)) ≡ wrap z
unfolding wrap
fitting (pos n) h = of_z-to_z w32 n (omega arith) ∙ omega arith
fitting (negsuc n) h = of_z-to_z w32 (2 ^ 32 - suc n) (omega arith) ∙ omega arith

-- a magnitude taken negative
pub signed_yes : (s : Bool) (n r : ℕ) → s ≡ true → r < 2 ^ 32 → (r + n) % 2 ^ 32 ≡ 0 → r ≡ signed s n
unfolding signed wrap
signed_yes s zero r e h k = rw e (omega arith)
signed_yes s (suc n) r e h k = rw e (omega arith)

pub signed_no : (s : Bool) (n : ℕ) → s ≡ false → n < 2 ^ 32 → n ≡ signed s n
unfolding signed wrap
signed_no s n e h = rw e (omega arith)

-- ---- "div goes toward zero", "mod has the dividend's sign": neither has a larger magnitude than the dividend

abs_neg : (n : ℕ) → nat_abs (neg_ℤ (pos n)) ≡ n
abs_neg zero = refl
abs_neg (suc n) = refl

quot_within : (x y : ℤ) → nat_abs (quot_z x y) ≤ nat_abs x
quot_within (pos a) (pos b) = div-le_self a b
quot_within (pos a) (negsuc b) = rw (abs_neg (a / suc b)) (div-le_self a (suc b))
quot_within (negsuc a) (pos b) = rw (abs_neg (suc a / b)) (div-le_self (suc a) b)
quot_within (negsuc a) (negsuc b) = div-le_self (suc a) (suc b)

rem_within : (x y : ℤ) → nat_abs (rem_z x y) ≤ nat_abs x
rem_within (pos a) y = mod-le a (nat_abs y)
rem_within (negsuc a) y = rw (abs_neg (suc a % nat_abs y)) (mod-le (suc a) (nat_abs y))

-- of two words, as the library's methods make them and `cast_unsigned` gives them back
module _ (a : ℕ) (y z : ℤ) (ha : a < 2 ^ 32) where
  pub quotient : to_z w32 (of_z w32 z) ≡ z → z ≡ int_wrapping_div w32 (int a) y → of_z w32 (to_z w32 (of_z w32 z)) ≡ wrap (quot_z (int a) y)
  quotient f e = ap (of_z w32) (f ∙ e) ∙ fitting (quot_z (int a) y) (omega (arith, quot_within (int a) y, magnitude_range a ha))

  pub remainder : z ≡ rem_z (int a) y → of_z w32 (to_z w32 (of_z w32 z)) ≡ wrap (rem_z (int a) y)
  remainder e = ap (λ x. of_z w32 (to_z w32 (of_z w32 x))) e ∙ fitting (rem_z (int a) y) (omega (arith, rem_within (int a) y, magnitude_range a ha))

-- what the definitions say of a divisor that the machine never lets through
pub div_none : (a : ℕ) → a < 2 ^ 32 → 0 ≡ div_int a 0
unfolding div_int wrap
div_none a word =
    by_sign (λ x. 0 ≡ wrap (quot_z x (int 0))) a word
    (λ h. rw (div-zero a) refl)
    (λ m e h. rw (div-zero (suc m)) refl)

pub mod_none : (a : ℕ) → a < 2 ^ 32 → a ≡ mod_int a 0
unfolding mod_int wrap
mod_none a word =
    by_sign (λ x. a ≡ wrap (rem_z x (int 0))) a word
    (λ h. rw (mod-zero a) (omega arith))
    (λ m e h. rw (mod-zero (suc m)) (omega arith))

-- ---- for the functions of these names

pub ruleset quotients = (read, quotient, div_none)

pub ruleset remainders = (read, remainder, mod_none)

pub ruleset signs = (signed_yes, signed_no)
