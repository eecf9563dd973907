-- Laws of the tests and choices of `hume`'s Tests.
use mathlib.Core.Path.{◌≡◌, refl, sym, subst}
use mathlib.Core.Bool.{Bool, true, false, ◌&&◌, ◌||◌}
use mathlib.Core.List.{List, [], ◌∷◌}
use Prim.Native.Nat.{ℕ, zero, suc, ◌<◌}
use native.Mathlib.Nat.{not-suc-le-zero, le_of_suc-le-suc}
use native.Mathlib.Decide.{ℕ_discrete}
use native.Mathlib.Omega.{arith}
use lib.Dec.{T, eqb, eqb→eq, eqb_refl}
use lib.ListN.{length, get_or}
use Rattle.hume.specs.Tests.{pick, every, all, same}

-- ---- a test as an equation, and back

pub to_true : {b : Bool} → T b → b ≡ true
to_true {b = true} t = refl
to_true {b = false} t = absurd t

pub of_true : {b : Bool} → b ≡ true → T b
of_true e = subst T (sym e) tt

pub to_false : {b : Bool} → (T b → ⊥) → b ≡ false
to_false {b = true} f = absurd (f tt)
to_false {b = false} f = refl

-- a test either passes or fails
pub data Tested (b : Bool) : Type 0 where
  passes : b ≡ true → Tested b
  misses : b ≡ false → Tested b

pub tested : (b : Bool) → Tested b
tested true = passes refl
tested false = misses refl

-- ---- and, or

pub and_left : (a b : Bool) → T (a && b) → T a
and_left true b t = tt
and_left false b t = t

pub and_right : (a b : Bool) → T (a && b) → T b
and_right true b t = t
and_right false b t = absurd t

pub and_both : (a b : Bool) → T a → T b → T (a && b)
and_both true b s t = t
and_both false b s t = s

pub data OneOf (a b : Bool) : Type 0 where
  one : T a → OneOf a b
  other : T b → OneOf a b

pub or_cases : (a b : Bool) → T (a || b) → OneOf a b
or_cases true b t = one tt
or_cases false b t = other t

pub or_left : (a b : Bool) → T a → T (a || b)
or_left true b t = tt
or_left false b t = absurd t

pub or_right : (a b : Bool) → T b → T (a || b)
or_right true b t = tt
or_right false b t = t

-- ---- the choice

pub pick_true {ℓ} : {X : Type ℓ} (b : Bool) (x y : X) → T b → pick b x y ≡ x
unfolding pick
pick_true true x y t = refl
pick_true false x y t = absurd t

pub pick_false {ℓ} : {X : Type ℓ} (b : Bool) (x y : X) → (T b → ⊥) → pick b x y ≡ y
unfolding pick
pick_false true x y f = absurd (f tt)
pick_false false x y f = refl

-- ---- every number below n

pub every_at : (n : ℕ) (f : ℕ → Bool) → T (every n f) → (i : ℕ) → i < n → T (f i)
unfolding every
every_at zero f t i h = absurd (not-suc-le-zero h)
every_at (suc n) f t i h = by (ℕ_discrete i n) (λ k. every_at n f (and_left (every n f) _ t) i k)
  where
    by : Dec (i ≡ n) → (i < n → T (f i)) → T (f i)
    by (yes e) later = subst (λ (k : ℕ). T (f k)) (sym e) (and_right (every n f) _ t)
    by (no e) later = later (omega arith)

pub every_of : (n : ℕ) (f : ℕ → Bool) → ((i : ℕ) → i < n → T (f i)) → T (every n f)
unfolding every
every_of zero f h = tt
every_of (suc n) f h = and_both (every n f) _ (every_of n f (λ i k. h i (omega arith))) (h n (omega arith))

-- ---- each thing of a list

pub all_at : {A : Type 0} (f : A → Bool) (xs : List A) (d : A) → T (all f xs) → (i : ℕ) → i < length xs → T (f (get_or xs i d))
unfolding all
all_at f [] d t i h = absurd (not-suc-le-zero h)
all_at f (x ∷ xs) d t zero h = and_left (f x) _ t
all_at f (x ∷ xs) d t (suc i) h = all_at f xs d (and_right (f x) _ t) i (le_of_suc-le-suc h)

pub all_of : {A : Type 0} (f : A → Bool) (xs : List A) (d : A) → ((i : ℕ) → i < length xs → T (f (get_or xs i d))) → T (all f xs)
unfolding all
all_of f [] d h = tt
all_of f (x ∷ xs) d h =
    and_both (f x) _ (h zero (omega arith)) (all_of f xs d (λ i k. h (suc i) (omega (arith, k))))

-- ---- the same numbers

pub same_eq : (xs ys : List ℕ) → T (same xs ys) → xs ≡ ys
unfolding same
same_eq [] [] t = refl
same_eq [] (y ∷ ys) t = absurd t
same_eq (x ∷ xs) [] t = absurd t
same_eq (x ∷ xs) (y ∷ ys) t =
    let e = eqb→eq x y (and_left (eqb x y) _ t) in
    let f = same_eq xs ys (and_right (eqb x y) _ t) in
    λ i. e i ∷ f i

pub eq_same : (xs : List ℕ) → T (same xs xs)
unfolding same
eq_same [] = tt
eq_same (x ∷ xs) = and_both (eqb x x) _ (eqb_refl x) (eq_same xs)

pub eqb_of : (m n : ℕ) → m ≡ n → T (eqb m n)
eqb_of m n e = subst (λ (k : ℕ). T (eqb m k)) e (eqb_refl m)
