-- "toFloat.i rounds to nearest, ties to even": the bits of `round binary32 s n 1`, from n's digits.
use mathlib.Core.Path.{◌≡◌, refl, sym, ap, ap₂, ◌∙◌, subst}
use mathlib.Core.Bool.{Bool, true, false, not, cond}
use Prim.Native.Nat.{ℕ, suc, ◌+◌, ◌-◌, ◌*◌, ◌/◌, ◌%◌, ◌^◌, ◌≤◌, ◌<◌, compare, Ordering}
use native.Mathlib.Nat.{div-one, lt_of_lt_of_le, mod-eq_of_lt, mul_assoc, mul-div_cancel, mul-le-mul_right, one-mul, add_assoc}
use native.Mathlib.Decide.{dec_le, dec_lt}
use native.Mathlib.Omega.{arith}
use lib.Count.{count_leading_zeros, leading_top}
use lib.Dec.{T, leb, is_le, compare_is_eq, le→leb, leb→le, eqb→eq}
use lib.IntN.{ℤ, pos, negsuc, nat_abs}
use lib.Signed.{non_neg}
use lib.Pow.{pow-add, pow_pos, pow_mono, shl_lt, shl-shr}
use lib.Ieee.{Float, nan, inf, fin, binary32, up, down, size, units, nearest, round, to_bits, of_int}
use lib.Ieee.Digits.{size-lt, size-le}
use lib.Ieee.Exact.{HasValue, units_val}
use lib.Ieee.Fits.{core, eq→eqb, round_is, nearest-le, down_pos}
use lib.Ieee.Nearest.{closest, closest_same, nearest-ge}
use borrow.Author.Tests.{lt-leb, le-leb}
use Rattle.hume.specs.Numbers.{int, stored, to_float}
use Rattle.arith.specs.Rounded.{Nearest}
use Rattle.arith.proofs.Ints.{below_is}

-- ---- how many digits

size_exact : (n i : ℕ) → 2 ^ i ≤ n → n < 2 ^ suc i → size n ≡ suc i
size_exact n i lo hi = go (dec_le (size n) i)
  where
    go : Dec (size n ≤ i) → size n ≡ suc i
    go (yes h) = absurd (omega (arith, size-lt n, pow_mono h))
    go (no h) = omega (arith, size-le n (suc i) hi)

size_moved : (q i k : ℕ) → 2 ^ i ≤ q → q < 2 ^ suc i → size (q * 2 ^ k) ≡ suc (i + k)
size_moved q i k lo hi =
    let l : 2 ^ (i + k) ≤ q * 2 ^ k = rw (pow-add 2 i k) (mul-le-mul_right (2 ^ k) lo) in
    let s : suc i + k ≡ suc (i + k) = omega arith in
    let h : q * 2 ^ k < 2 ^ suc (i + k) = rw s at (shl_lt (suc i) k hi) in
    size_exact (q * 2 ^ k) (i + k) l h

-- ---- a magnitude of a units of 2 ^ -149, as the exponent's field and the digits

abbrev fields : ℕ → ℕ
fields a = (size a - 24) * 2 ^ 23 + a / 2 ^ (size a - 24)

bits_at : (x : Float) (s : Bool) (a : ℕ) → HasValue x s a (2 ^ 149) → to_bits binary32 x ≡ cond s (2 ^ 31) 0 + fields a
unfolding to_bits
bits_at nan s a h = absurd h
bits_at (inf t) s a h = absurd h
bits_at (fin t m e) s a h =
    let n : m * up e * 2 ^ 149 / down e ≡ a = ap (λ (x : ℕ). x / down e) h.1 ∙ mul-div_cancel a (down_pos e) in
    ap₂ (λ (b : Bool) (x : ℕ). cond b (2 ^ 31) 0 + (size x - 24) * 2 ^ 23 + x / 2 ^ (size x - 24)) h.0 n
    ∙ add_assoc (cond s (2 ^ 31) 0) ((size a - 24) * 2 ^ 23) (a / 2 ^ (size a - 24))

-- q has 24 digits, or is 2 ^ 24, whose digit past the 24 carries into the field
packed : (q k : ℕ) → 2 ^ 23 ≤ q → q ≤ 2 ^ 24 → fields (q * 2 ^ k) ≡ k * 2 ^ 23 + q
packed q k lo hi = go (dec_lt q (2 ^ 24))
  where
    go : Dec (q < 2 ^ 24) → fields (q * 2 ^ k) ≡ k * 2 ^ 23 + q
    go (yes h) =
        let e : size (q * 2 ^ k) - 24 ≡ k = omega (arith, size_moved q 23 k lo h) in
        rw (e, shl-shr q k) refl
    go (no h) =
        let eq : q ≡ 2 ^ 24 = omega arith in
        let e : size (q * 2 ^ k) - 24 ≡ 1 + k = omega (arith, size_moved q 24 k (omega arith) (omega arith)) in
        let two : q * 2 ^ k ≡ 2 ^ 23 * 2 ^ (1 + k) = rw (eq, pow-add 2 1 k) (mul_assoc (2 ^ 23) (2 ^ 1) (2 ^ k)) in
        let d : q * 2 ^ k / 2 ^ (1 + k) ≡ 2 ^ 23 = rw two (shl-shr (2 ^ 23) (1 + k)) in
        rw (e, d) (omega arith)

-- ---- n has j + 1 digits; moved up it has 32

module _ (n j : ℕ) (lo : 2 ^ j ≤ n) (hi : n < 2 ^ suc j) (fits : j ≤ 31) where
  abbrev moved : ℕ
  moved = n * 2 ^ (31 - j)

  moved_lo : 2 ^ 31 ≤ moved
  moved_lo =
      let e : j + (31 - j) ≡ 31 = omega arith in
      let p : 2 ^ j * 2 ^ (31 - j) ≡ 2 ^ 31 = sym (pow-add 2 j (31 - j)) ∙ ap (λ (x : ℕ). 2 ^ x) e in
      rw p at (mul-le-mul_right (2 ^ (31 - j)) lo)

  moved_hi : moved < 2 ^ 32
  moved_hi =
      let e : suc j + (31 - j) ≡ 32 = omega arith in
      rw e at (shl_lt (suc j) (31 - j) hi)

  -- n of the smallest units over the unit of the last digit kept is the moved n over 256
  same_fraction : n * 2 ^ 149 * 256 ≡ moved * (1 * 2 ^ (j + 126))
  same_fraction =
      let e : 31 - j + (j + 126) ≡ 157 = omega arith in
      let p : 2 ^ (31 - j) * (1 * 2 ^ (j + 126)) ≡ 2 ^ 157 = ap (λ (x : ℕ). 2 ^ (31 - j) * x) (one-mul (2 ^ (j + 126))) ∙ sym (pow-add 2 (31 - j) (j + 126)) ∙ ap (λ (x : ℕ). 2 ^ x) e in
      mul_assoc n (2 ^ 149) 256 ∙ sym (mul_assoc n (2 ^ (31 - j)) (1 * 2 ^ (j + 126)) ∙ ap (λ (x : ℕ). n * x) p)

  rounded : (s : Bool) → round binary32 s n 1 ≡ units binary32 s (closest moved 256) (j + 126)
  rounded s =
      let d : n * 2 ^ 149 / 1 ≡ n * 2 ^ 149 = div-one (n * 2 ^ 149) in
      let k : size (n * 2 ^ 149 / 1) - 24 ≡ j + 126 = ap (λ (x : ℕ). size x - 24) d ∙ omega (arith, size_moved n j 149 lo hi) in
      let u : 0 < 1 * 2 ^ (j + 126) = rw (one-mul (2 ^ (j + 126))) (pow_pos (j + 126)) in
      round_is binary32 s n 1
      ∙ ap (λ (x : ℕ). core binary32 s (n * 2 ^ 149) 1 x) k
      ∙ ap (λ (x : ℕ). units binary32 s x (j + 126)) (closest_same (n * 2 ^ 149) (1 * 2 ^ (j + 126)) moved 256 u (omega arith) same_fraction)

  kept_lo : 2 ^ 23 ≤ closest moved 256
  kept_lo = omega (arith, nearest-ge (moved / 256) (compare (moved % 256 * 2) 256), moved_lo)

  kept_hi : closest moved 256 ≤ 2 ^ 24
  kept_hi = omega (arith, nearest-le (moved / 256) (compare (moved % 256 * 2) 256), moved_hi)

  bits_of : (s : Bool) → to_bits binary32 (round binary32 s n 1) ≡ cond s (2 ^ 31) 0 + ((j + 126) * 2 ^ 23 + closest moved 256)
  bits_of s =
      let q = closest moved 256 in
      let small : q * 2 ^ (j + 126) < 2 ^ 277 =
      let a : q * 2 ^ (j + 126) < 2 ^ (25 + (j + 126)) = shl_lt 25 (j + 126) (omega (arith, kept_hi)) in
      let b : 2 ^ (25 + (j + 126)) ≤ 2 ^ 277 = pow_mono {i = 25 + (j + 126)} {j = 277} (omega arith) in
      lt_of_lt_of_le a b in
      ap (λ (x : Float). to_bits binary32 x) (rounded s)
      ∙ bits_at (units binary32 s q (j + 126)) s (q * 2 ^ (j + 126)) (units_val binary32 s q (j + 126) small)
      ∙ ap (λ (x : ℕ). cond s (2 ^ 31) 0 + x) (packed q (j + 126) kept_lo kept_hi)

-- ---- "ties to even", as one sum: r is what is dropped of 256

module _ (q r : ℕ) (part : r < 256) where
  ties_at : (o : Ordering) → compare (r * 2) 256 ≡ o → nearest q o ≡ q + (r + 127 + q % 2) / 256
  ties_at Ordering.lt e =
      let most : r * 2 ≤ 256 = leb→le (r * 2) 256 (subst (λ o. T (is_le o)) (sym e) tt) in
      let half : r * 2 ≡ 256 → ⊥ = λ h. subst (λ o. T (compare_is_eq o)) e (eq→eqb h) in
      omega arith
  ties_at Ordering.eq e =
      let half : r * 2 ≡ 256 = eqb→eq (r * 2) 256 (subst (λ o. T (compare_is_eq o)) (sym e) tt) in
      omega arith
  ties_at Ordering.gt e =
      let most : r * 2 ≤ 256 → ⊥ = λ h. subst (λ o. T (is_le o)) e (le→leb (r * 2) 256 h) in
      omega arith

  ties : nearest q (compare (r * 2) 256) ≡ q + (r + 127 + q % 2) / 256
  ties = ties_at (compare (r * 2) 256) refl

-- ---- in the code's terms

module _ (n : ℕ) (some : 0 < n) (word : n < 2 ^ 32) where
  abbrev norm : ℕ
  norm = n * 2 ^ count_leading_zeros 32 n % 2 ^ 32

  -- the digits kept, rounded
  abbrev kept : ℕ
  kept = norm / 256 + (norm % 256 + 127 + norm / 256 % 2) / 256

  norm_is : (j : ℕ) → count_leading_zeros 32 n + suc j ≡ 32 → 2 ^ j ≤ n → n < 2 ^ suc j → norm ≡ n * 2 ^ (31 - j)
  norm_is j t lo hi =
      let z : 31 - j ≡ count_leading_zeros 32 n = omega arith in
      rw (← z) (mod-eq_of_lt (moved_hi n j lo hi (omega arith)))

  at_size : (j : ℕ) → count_leading_zeros 32 n + suc j ≡ 32 → 2 ^ j ≤ n → n < 2 ^ suc j → (r : ℕ) → r ≡ (157 - count_leading_zeros 32 n) * 2 ^ 23 + kept → Nearest n r
  unfolding stored
  at_size j t lo hi r e =
      let le : j ≤ 31 = omega arith in
      let c : kept ≡ closest norm 256 = sym (ties (norm / 256) (norm % 256) (omega arith)) in
      let m : closest norm 256 ≡ closest (n * 2 ^ (31 - j)) 256 = ap (λ (x : ℕ). closest x 256) (norm_is j t lo hi) in
      let k : (157 - count_leading_zeros 32 n) * 2 ^ 23 ≡ (j + 126) * 2 ^ 23 = omega arith in
      let q : r ≡ (j + 126) * 2 ^ 23 + closest (n * 2 ^ (31 - j)) 256 = e ∙ ap₂ (λ (x y : ℕ). x + y) k (c ∙ m) in
      record {
        small = omega (arith, q, kept_hi n j lo hi le);
        bits = λ s. ap (λ (x : ℕ). cond s (2 ^ 31) 0 + x) q ∙ sym (bits_of n j lo hi le s);
      }

  pub nearest_is : (r : ℕ) → r ≡ (157 - count_leading_zeros 32 n) * 2 ^ 23 + kept → Nearest n r
  nearest_is r e = let t = leading_top 32 n some word in at_size t.0 t.1 t.2 t.3 r e

-- ---- the integer of a word

of_int_lem : (x : ℤ) → of_int binary32 x ≡ round binary32 (not (non_neg x)) (nat_abs x) 1
unfolding of_int
of_int_lem (pos n) = refl
of_int_lem (negsuc n) = refl

module _ (a m r : ℕ) (word : a < 2 ^ 32) (e : m ≡ nat_abs (int a)) (h : Nearest m r) where
  signed_bits : (s : Bool) → leb (2 ^ 31) a ≡ s → cond s (2 ^ 31) 0 + r ≡ to_float a
  unfolding to_float
  signed_bits s f =
      h.bits s
      ∙ ap₂ (λ (t : Bool) (n : ℕ). stored (round binary32 t n 1)) (sym (below_is a word ∙ f)) e
      ∙ ap stored (sym (of_int_lem (int a)))

  pub to_float_low : a < 2 ^ 31 → r ≡ to_float a
  to_float_low l = omega (arith, signed_bits false (lt-leb (2 ^ 31) a l))

  pub to_float_high : 2 ^ 31 ≤ a → 2 ^ 31 + r ≡ to_float a
  to_float_high l = signed_bits true (le-leb (2 ^ 31) a l)

pub to_float_zero : 0 ≡ to_float 0
unfolding to_float
to_float_zero = refl
