-- Laws of words throughout a list, and of a store.
use mathlib.Core.Path.{◌≡◌, ap, ◌∙◌}
use mathlib.Core.List.{List, [], ◌∷◌, ◌++◌}
use Prim.Native.Nat.{ℕ, zero, suc, ◌+◌}
use native.Mathlib.Nat.{zero-add, suc-add}
use lib.ListN.{length, get_or, take, drop, set, replicate}
use Rattle.hume.specs.Words.{Word, null}
use Rattle.laws.proofs.Each.{each_nil, each_cons, each_append, each_take, each_drop, each_replicate}
use Rattle.reach.specs.Sound.{Throughout}

-- What holds of the element at each place, and of what is stored, holds after the store.
each_set : {A : Type 0} (F : A → Type 0) (d : A) (l : List A) (j : ℕ) (a : A) → F a → ((i : ℕ) → F (get_or l i d))
    → (i : ℕ) → F (get_or (set l j a) i d)
each_set F d [] j a h k i = k i
each_set F d (x ∷ xs) zero a h k zero = h
each_set F d (x ∷ xs) zero a h k (suc i) = k (suc i)
each_set F d (x ∷ xs) (suc j) a h k zero = k zero
each_set F d (x ∷ xs) (suc j) a h k (suc i) = each_set F d xs j a h (λ m. k (suc m)) i

-- A store past a seam.
pub set_append_add : {A : Type 0} (xs ys : List A) (n : ℕ) (a : A) → set (xs ++ ys) (length xs + n) a ≡ xs ++ set ys n a
set_append_add [] ys n a = ap (λ (k : ℕ). set ys k a) (zero-add n)
set_append_add {A = A} (x ∷ xs) ys n a =
    ap (λ (k : ℕ). set (x ∷ xs ++ ys) k a) (suc-add (length xs) n)
    ∙ ap (λ (l : List A). x ∷ l) (set_append_add xs ys n a)

module _ (F : Word → Type 0) where
  -- one word more in front
  pub through_cons : (w : Word) (ws : List Word) → F w → Throughout F ws → Throughout F (w ∷ ws)
  through_cons w ws h k = record { each = each_cons F null w ws h k.each }

  -- words and words
  pub through_append : (us ws : List Word) → Throughout F us → Throughout F ws → Throughout F (us ++ ws)
  through_append us ws h k = record { each = each_append F null us ws h.each k.each }

  -- all but the first k
  pub through_drop : (k : ℕ) (ws : List Word) → Throughout F ws → Throughout F (drop k ws)
  through_drop k ws h = record { each = each_drop F null k ws h.each }

  -- with one of them replaced
  pub through_set : (ws : List Word) (i : ℕ) (w : Word) → F w → Throughout F ws → Throughout F (set ws i w)
  through_set ws i w h k = record { each = each_set F null ws i w h k.each }

  module _ (z : F null) where
    -- no words
    pub through_nil : Throughout F []
    through_nil = record { each = each_nil F null z }

    -- one word
    pub through_one : (w : Word) → F w → Throughout F (w ∷ [])
    through_one w h = through_cons w [] h through_nil

    -- the first k of them
    pub through_take : (k : ℕ) (ws : List Word) → Throughout F ws → Throughout F (take k ws)
    through_take k ws h = record { each = each_take F null k ws z h.each }

    -- n nulls
    pub through_nulls : (n : ℕ) → Throughout F (replicate n null)
    through_nulls n = record { each = each_replicate F null n null z z }
