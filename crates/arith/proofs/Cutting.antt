-- "toInt.f drops the fraction": from a float's bits to its whole part.
use mathlib.Core.Path.{◌≡◌, refl, sym, ap, ap₂, ◌∙◌}
use mathlib.Core.Bool.{Bool, true, false, cond}
use mathlib.Core.Option.{none, some}
use Prim.Native.Nat.{ℕ, zero, suc, ◌+◌, ◌-◌, ◌*◌, ◌/◌, ◌%◌, ◌^◌, ◌≤◌, ◌<◌}
use native.Mathlib.Nat.{lt_of_lt_of_le, mul_assoc, mul-div_cancel, mul-div-mul_right, mul-le-mul_left, div-eq_of_lt, div-lt_iff_lt-mul}
use native.Mathlib.Decide.{dec_lt}
use native.Mathlib.Omega.{arith}
use lib.Dec.{leb, eqb}
use lib.Pow.{pow-add, pow_pos, pow_mono, shl_lt}
use lib.Ieee.{Float, nan, inf, fin, binary32, up, down, odd, of_fields}
use lib.Ieee.Exact.{HasValue, odd_sign}
use lib.Ieee.Fits.{down_pos}
use lib.Ieee.Nearest.{div_same}
use borrow.Author.Tests.{lt-ltb, le-ltb, lt-leb, le-leb, ne_eqb}
use Rattle.hume.specs.Numbers.{in_range, truncated, to_int}
use Rattle.arith.specs.Signs.{signed}
use Rattle.arith.proofs.Ints.{signed_no}

-- ---- a magnitude of a units of 2 ^ -149

value_cut : (x : Float) (s : Bool) (a : ℕ) → HasValue x s a (2 ^ 149) → truncated x ≡ in_range s (a / 2 ^ 149)
unfolding truncated
value_cut nan s a h = absurd h
value_cut (inf t) s a h = absurd h
value_cut (fin t m e) s a h = ap₂ in_range h.0 (div_same (m * up e) (down e) a (2 ^ 149) (down_pos e) (pow_pos 149) h.1)

-- ---- which magnitudes are in range

in_range_lem : (s : Bool) (m : ℕ) → m < 2 ^ 31 → in_range s m ≡ some (signed s m)
unfolding in_range signed
in_range_lem true m h = rw (le-leb m (2 ^ 31) (omega arith)) refl
in_range_lem false m h = rw (lt-ltb m (2 ^ 31) h) (ap some (signed_no false m refl (omega arith)))

out_low : (m : ℕ) → 2 ^ 31 ≤ m → in_range false m ≡ none
unfolding in_range
out_low m h = rw (le-ltb m (2 ^ 31) h) refl

out_both : (s : Bool) (m : ℕ) → 2 ^ 31 < m → in_range s m ≡ none
unfolding in_range
out_both true m h = rw (lt-leb m (2 ^ 31) h) refl
out_both false m h = out_low m (omega arith)

signed_zero : (s : Bool) → signed s 0 ≡ 0
unfolding signed
signed_zero true = refl
signed_zero false = refl

-- ---- by the exponent's field x and the digits' field t

abbrev digits : ℕ → ℕ
digits t = 2 ^ 23 + t

abbrev part : ℕ → ℕ → ℕ
part t x = digits t * 2 ^ (x - 1) / 2 ^ 149

module _ (s : Bool) (t : ℕ) (few : t < 2 ^ 23) where
  value : (x : ℕ) → suc x < 255 → HasValue (of_fields binary32 s (suc x) t) s (digits t * 2 ^ x) (2 ^ 149)
  unfolding of_fields
  value x h = rw (ne_eqb (suc x) 255 (λ e. omega arith)) (odd_sign 24 s (digits t) x 149)

  -- below 1
  fraction : (x : Float) (a : ℕ) → HasValue x s a (2 ^ 149) → a < 2 ^ 149 → truncated x ≡ some 0
  fraction x a h l = value_cut x s a h ∙ ap (in_range s) (div-eq_of_lt l) ∙ in_range_lem s 0 (omega arith) ∙ ap some (signed_zero s)

  small : (x : ℕ) → x < 127 → truncated (of_fields binary32 s x t) ≡ some 0
  unfolding of_fields
  small zero h = fraction (odd 24 s t 0 149) (t * 2 ^ 0) (odd_sign 24 s t 0 149) (lt_of_lt_of_le (shl_lt 23 0 few) (pow_mono {i = 23} {j = 149} (omega arith)))
  small (suc x) h = fraction (of_fields binary32 s (suc x) t) (digits t * 2 ^ x) (value x (omega arith)) (lt_of_lt_of_le (shl_lt 24 x (omega arith)) (pow_mono {i = 24 + x} {j = 149} (omega arith)))

  finite : (x : ℕ) → 1 ≤ x → x < 255 → truncated (of_fields binary32 s x t) ≡ in_range s (part t x)
  finite zero lo hi = absurd (omega arith)
  finite (suc x) lo hi =
      let e : suc x - 1 ≡ x = omega arith in
      rw e (value_cut (of_fields binary32 s (suc x) t) s (digits t * 2 ^ x) (value x hi))

  -- an infinity or a NaN
  no_number : truncated (of_fields binary32 s 255 t) ≡ none
  unfolding of_fields truncated
  no_number = go (eqb t 0)
    where
      go : (b : Bool) → truncated (cond b (inf s) nan) ≡ none
      go true = refl
      go false = refl

-- below 2 ^ 31
part_small : (t x : ℕ) → t < 2 ^ 23 → x < 158 → part t x < 2 ^ 31
part_small t x few h = (div-lt_iff_lt-mul (pow_pos 149)).1 (lt_of_lt_of_le (shl_lt 24 (x - 1) (omega arith)) (pow_mono {i = 24 + (x - 1)} {j = 180} (omega arith)))

-- and from there on: the digits moved up by k places at least
part_large : (t x k : ℕ) → 150 + k ≤ x → digits t * 2 ^ k ≤ part t x
part_large t x k h =
    let d = digits t in
    let e : x - 1 ≡ x - 150 + 149 = omega arith in
    let p : d * 2 ^ (x - 1) ≡ d * 2 ^ (x - 150) * 2 ^ 149 = ap (λ (i : ℕ). d * 2 ^ i) e ∙ ap (λ (i : ℕ). d * i) (pow-add 2 (x - 150) 149) ∙ sym (mul_assoc d (2 ^ (x - 150)) (2 ^ 149)) in
    let q : part t x ≡ d * 2 ^ (x - 150) = ap (λ (i : ℕ). i / 2 ^ 149) p ∙ mul-div_cancel (d * 2 ^ (x - 150)) (pow_pos 149) in
    rw q (mul-le-mul_left d (pow_mono {i = k} {j = x - 150} (omega arith)))

-- ---- in the code's terms

-- 32 digits moved down
pub dropped_is : (d x : ℕ) → d < 2 ^ 24 → 127 ≤ x → x < 158 → d * 256 % 2 ^ 32 / 2 ^ (158 - x) ≡ d * 2 ^ (x - 1) / 2 ^ 149
dropped_is d x few lo hi =
    let e : 158 - x + (x - 9) ≡ 149 = omega arith in
    let f : 8 + (x - 9) ≡ x - 1 = omega arith in
    let p : 2 ^ 149 ≡ 2 ^ (158 - x) * 2 ^ (x - 9) = sym (sym (pow-add 2 (158 - x) (x - 9)) ∙ ap (λ (k : ℕ). 2 ^ k) e) in
    let q : d * 2 ^ (x - 1) ≡ d * 256 * 2 ^ (x - 9) = sym (mul_assoc d 256 (2 ^ (x - 9)) ∙ ap (λ (k : ℕ). d * k) (sym (pow-add 2 8 (x - 9)) ∙ ap (λ (k : ℕ). 2 ^ k) f)) in
    let w : d * 256 % 2 ^ 32 ≡ d * 256 = omega arith in
    ap (λ (n : ℕ). n / 2 ^ (158 - x)) w ∙ sym (ap₂ (λ (n m : ℕ). n / m) q p ∙ mul-div-mul_right (d * 256) (2 ^ (158 - x)) (pow_pos (x - 9)))

-- bounds on a number p that `omega` must not see as it is written
at_least : (d p : ℕ) → 2 ^ 23 ≤ d → d * 2 ^ 8 ≤ p → 2 ^ 31 ≤ p
at_least d p h k = omega arith

above_one : (d p : ℕ) → 2 ^ 23 < d → d * 2 ^ 8 ≤ p → 2 ^ 31 < p
above_one d p h k = omega arith

above_two : (d p : ℕ) → 2 ^ 23 ≤ d → d * 2 ^ 9 ≤ p → 2 ^ 31 < p
above_two d p h k = omega arith

module _ (a : ℕ) where
  abbrev s : Bool
  s = leb (2 ^ 31) a

  abbrev x : ℕ
  x = a % 2 ^ 31 / 2 ^ 23

  abbrev t : ℕ
  t = a % 2 ^ 23

  by_fields : to_int a ≡ truncated (of_fields binary32 s x t)
  unfolding to_int
  by_fields = refl

  at_fields : 1 ≤ x → x < 255 → to_int a ≡ in_range s (part t x)
  at_fields lo hi = by_fields ∙ finite s t (omega arith) x lo hi

  pub below_one : a % 2 ^ 31 < 1065353216 → to_int a ≡ some 0
  below_one h = by_fields ∙ small s t (omega arith) x (omega arith)

  pub whole_part : 1065353216 ≤ a % 2 ^ 31 → a % 2 ^ 31 < 1325400064 → (r : ℕ) → r ≡ (a % 2 ^ 31 % 2 ^ 23 + 2 ^ 23) * 2 ^ (x - 1) / 2 ^ 149 → to_int a ≡ some (signed s r)
  whole_part lo hi r e =
      let d : a % 2 ^ 31 % 2 ^ 23 + 2 ^ 23 ≡ digits t = omega arith in
      let f : part t x ≡ r = sym (e ∙ ap (λ (k : ℕ). k * 2 ^ (x - 1) / 2 ^ 149) d) in
      at_fields (omega arith) (omega arith) ∙ in_range_lem s (part t x) (part_small t x (omega arith) (omega arith)) ∙ ap (λ (m : ℕ). some (signed s m)) f

  pub beyond : 1325400064 ≤ a % 2 ^ 31 → (a ≡ 3472883712 → ⊥) → a < 2 ^ 32 → to_int a ≡ none
  beyond lo n word = go (dec_lt x 255)
    where
      at : x < 255 → Dec (a < 2 ^ 31) → Dec (x < 159) → to_int a ≡ none
      at h (yes p) w =
          at_fields (omega arith) h
          ∙ ap (λ (b : Bool). in_range b (part t x)) (lt-leb (2 ^ 31) a p)
          ∙ out_low (part t x) (at_least (digits t) (part t x) (omega arith) (part_large t x 8 (omega arith)))
      at h (no p) (yes w) = at_fields (omega arith) h ∙ out_both s (part t x) (above_one (digits t) (part t x) (omega arith) (part_large t x 8 (omega arith)))
      at h (no p) (no w) = at_fields (omega arith) h ∙ out_both s (part t x) (above_two (digits t) (part t x) (omega arith) (part_large t x 9 (omega arith)))

      go : Dec (x < 255) → to_int a ≡ none
      go (yes h) = at h (dec_lt a (2 ^ 31)) (dec_lt x 159)
      go (no h) =
          let e : x ≡ 255 = omega arith in
          by_fields ∙ ap (λ (k : ℕ). truncated (of_fields binary32 s k t)) e ∙ no_number s t (omega arith)

-- -2 ^ 31
pub lowest : to_int 3472883712 ≡ some 2147483648
unfolding to_int
lowest = refl

pub ruleset cuts = (below_one, whole_part, beyond, lowest)
