-- A table with a law for each of its entries has the law at each place.
use mathlib.Core.Path.{◌≡◌, subst}
use mathlib.Core.List.{List, [], ◌∷◌}
use Prim.Native.Nat.{ℕ, zero, suc, ◌+◌, ◌<◌}
use native.Mathlib.Nat.{not-suc-le-zero, le_of_suc-le-suc}
use native.Mathlib.Omega.{arith}
use lib.ListN.{length, get_or}

infixr 20 ◌&◌
-- F holds of each entry and its number, counting from k.
pub data Table {A : Type 0} (F : ℕ → A → Type 0) : ℕ → List A → Type 0 where
  end : {k : ℕ} → Table F k []
  ◌&◌ : {k : ℕ} {x : A} {xs : List A} → F k x → Table F (suc k) xs → Table F k (x ∷ xs)

-- The entry i has the number k + i.
pub table_at : {A : Type 0} (F : ℕ → A → Type 0) (d : A) (l : List A) (k : ℕ) → Table F k l → (i n : ℕ) → k + i ≡ n
    → i < length l → F n (get_or l i d)
table_at F d [] k t i n e h = absurd (not-suc-le-zero h)
table_at F d (x ∷ xs) k (f & t) zero n e h =
    let q : k ≡ n = omega arith in
    subst (λ (m : ℕ). F m x) q f
table_at F d (x ∷ xs) k (f & t) (suc i) n e h =
    table_at F d xs (suc k) t i n (omega arith) (le_of_suc-le-suc h)

-- Where the number does not matter, it holds past the end too if it holds of the default.
pub table_all : {A : Type 0} (F : A → Type 0) (d : A) → F d → (l : List A) (k : ℕ) → Table (λ n x. F x) k l
    → (i : ℕ) → F (get_or l i d)
table_all F d z [] k t i = z
table_all F d z (x ∷ xs) k (f & t) zero = f
table_all F d z (x ∷ xs) k (f & t) (suc i) = table_all F d z xs (suc k) t i
