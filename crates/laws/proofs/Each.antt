-- What holds at every place of a list, and past its end of the default.
use mathlib.Core.List.{List, [], ◌∷◌, ◌++◌}
use Prim.Native.Nat.{ℕ, zero, suc, ◌+◌, ◌^◌, ◌<◌}
use native.Mathlib.Omega.{arith}
use lib.ListN.{length, get_or, take, drop, replicate}
use lib.Seq.{get_or-drop, get_or-append-add}
use Rattle.laws.specs.Accepted.{Words32}

module _ {A : Type 0} (P : A → Type 0) (d : A) where
  -- the empty list
  pub each_nil : P d → (i : ℕ) → P (get_or [] i d)
  each_nil z i = z

  -- another default
  pub each_default : (xs : List A) (e : A) → P e → ((i : ℕ) → P (get_or xs i d)) → (i : ℕ) → P (get_or xs i e)
  each_default [] e z a i = z
  each_default (x ∷ xs) e z a zero = a zero
  each_default (x ∷ xs) e z a (suc i) = each_default xs e z (λ j. a (suc j)) i

  -- one thing more in front
  pub each_cons : (x : A) (xs : List A) → P x → ((i : ℕ) → P (get_or xs i d)) → (i : ℕ) → P (get_or (x ∷ xs) i d)
  each_cons x xs a b zero = a
  each_cons x xs a b (suc i) = b i

  -- two lists, one after the other,
  pub each_append : (xs ys : List A) → ((i : ℕ) → P (get_or xs i d)) → ((i : ℕ) → P (get_or ys i d))
      → (i : ℕ) → P (get_or (xs ++ ys) i d)
  each_append [] ys a b i = b i
  each_append (x ∷ xs) ys a b zero = a zero
  each_append (x ∷ xs) ys a b (suc i) = each_append xs ys (λ j. a (suc j)) b i

  -- and back: the first,
  pub each_left : (xs ys : List A) → P d → ((i : ℕ) → P (get_or (xs ++ ys) i d)) → (i : ℕ) → P (get_or xs i d)
  each_left [] ys z a i = z
  each_left (x ∷ xs) ys z a zero = a zero
  each_left (x ∷ xs) ys z a (suc i) = each_left xs ys z (λ j. a (suc j)) i

  -- and the second
  pub each_right : (xs ys : List A) → ((i : ℕ) → P (get_or (xs ++ ys) i d)) → (i : ℕ) → P (get_or ys i d)
  each_right xs ys a i = rw (get_or-append-add xs ys i d) at (a (length xs + i))

  -- a front part
  pub each_take : (n : ℕ) (xs : List A) → P d → ((i : ℕ) → P (get_or xs i d)) → (i : ℕ) → P (get_or (take n xs) i d)
  each_take zero xs z a i = z
  each_take (suc n) [] z a i = z
  each_take (suc n) (x ∷ xs) z a zero = a zero
  each_take (suc n) (x ∷ xs) z a (suc i) = each_take n xs z (λ j. a (suc j)) i

  -- what follows a front part
  pub each_drop : (n : ℕ) (xs : List A) → ((i : ℕ) → P (get_or xs i d)) → (i : ℕ) → P (get_or (drop n xs) i d)
  each_drop n xs a i = rw (get_or-drop n xs i d) (a (n + i))

  -- one thing over and over
  pub each_replicate : (n : ℕ) (x : A) → P d → P x → (i : ℕ) → P (get_or (replicate n x) i d)
  each_replicate zero x z a i = z
  each_replicate (suc n) x z a zero = a
  each_replicate (suc n) x z a (suc i) = each_replicate n x z a i

-- ---- words of 32 bits

abbrev below : ℕ → Type 0
below x = x < 2 ^ 32

-- No words at all.
pub words_nil : Words32 []
words_nil = record { each = λ i. omega arith }

-- One word more in front.
pub words_cons : (x : ℕ) (xs : List ℕ) → x < 2 ^ 32 → Words32 xs → Words32 (x ∷ xs)
words_cons x xs h s = record { each = each_cons below 0 x xs h s.each }

-- Two lists of 32-bit words, one after the other,
pub words_append : (xs ys : List ℕ) → Words32 xs → Words32 ys → Words32 (xs ++ ys)
words_append xs ys s t = record { each = each_append below 0 xs ys s.each t.each }

-- and back: the first,
pub words_left : (xs ys : List ℕ) → Words32 (xs ++ ys) → Words32 xs
words_left xs ys s = record { each = each_left below 0 xs ys (omega arith) s.each }

-- and the second.
pub words_right : (xs ys : List ℕ) → Words32 (xs ++ ys) → Words32 ys
words_right xs ys s = record { each = each_right below 0 xs ys s.each }

-- A front part of 32-bit words.
pub words_take : (n : ℕ) (xs : List ℕ) → Words32 xs → Words32 (take n xs)
words_take n xs s = record { each = each_take below 0 n xs (omega arith) s.each }

-- What follows a front part.
pub words_drop : (n : ℕ) (xs : List ℕ) → Words32 xs → Words32 (drop n xs)
words_drop n xs s = record { each = each_drop below 0 n xs s.each }

-- Zeros are words of 32 bits.
pub words_zeros : (n : ℕ) → Words32 (replicate n 0)
words_zeros n = record { each = each_replicate below 0 n 0 (omega arith) (omega arith) }
