-- Laws of tests: what a loop or a chain of tests has found, as an equation of the test.
use mathlib.Core.Path.{◌≡◌, refl, sym, ap, ◌∙◌, subst}
use native.Mathlib.Omega.{arith}
use mathlib.Core.Bool.{Bool, true, false, ◌&&◌, ◌||◌}
use mathlib.Core.List.{List, [], ◌∷◌}
use Rattle.std.specs.Prelude.{Some, None}
use Rattle.std.specs.List.{list_all, range_with_len}
use Rattle.std.proofs.lemmas.List.FromFn.{length-range_with_len, get_or-range_with_len}
use Rattle.std.proofs.Common.{zero-add}
use Prim.Native.Nat.{ℕ, ◌<◌}
use lib.Dec.{T}
use lib.ListN.{length, get_or}
use Rattle.hume.specs.Tests.{pick, every, all}
use Rattle.laws.proofs.Tests.{to_true, of_true, to_false, every_at, every_of, all_at, all_of}

pub both_ways : (a b : Bool) → (T a → T b) → (T b → T a) → a ≡ b
both_ways true true f g = refl
both_ways true false f g = absurd (f tt)
both_ways false true f g = absurd (g tt)
both_ways false false f g = refl

pub every_yes : (n : ℕ) (f : ℕ → Bool) → ((i : ℕ) → i < n → f i ≡ true) → every n f ≡ true
every_yes n f h = to_true (every_of n f (λ i k. of_true (h i k)))

pub every_no : (n : ℕ) (f : ℕ → Bool) (i : ℕ) → i < n → f i ≡ false → every n f ≡ false
every_no n f i k e = to_false (λ t. subst T e (every_at n f t i k))

pub and_yes : (a b : Bool) → a ≡ true → (a && b) ≡ b
and_yes a b e = ap (λ (t : Bool). t && b) e

pub and_no : (a b : Bool) → a ≡ false → (a && b) ≡ false
and_no a b e = ap (λ (t : Bool). t && b) e

-- a test in front of a chain, regrouped
push : (a y z : Bool) {x : Bool} → x ≡ (y && z) → (a && x) ≡ ((a && y) && z)
push true y z e = e
push false y z e = refl

pub regroup : (a b c d e f g z : Bool)
    → (a && (b && (c && (d && (e && (f && (g && z))))))) ≡ ((a && (b && (c && (d && (e && (f && g)))))) && z)
regroup a b c d e f g z =
    push a (b && (c && (d && (e && (f && g))))) z
    (push b (c && (d && (e && (f && g)))) z
    (push c (d && (e && (f && g))) z (push d (e && (f && g)) z (push e (f && g) z (push f g z refl)))))

-- ---- what is found, unless a test fails

pub found_yes : (b : Bool) (x r : ℕ) → b ≡ true → r ≡ x → Some r ≡ pick b (Some x) None
unfolding pick
found_yes b x r e f = rw (e, f) refl

pub found_no : (b : Bool) (x : ℕ) → b ≡ false → None ≡ pick b (Some x) None
unfolding pick
found_no b x e = rw e refl

pub record Found (b : Bool) (x r : ℕ) : Type 0 where
  pub passes : b ≡ true
  pub is : r ≡ x

pub found_place : (b : Bool) (x r : ℕ) → Some r ≡ pick b (Some x) None → Found b x r
unfolding pick
found_place true x r e = record { passes = refl; is = cc }
found_place false x r e = absurd (cc)

pub lost_place : (b : Bool) (x : ℕ) → None ≡ pick b (Some x) None → b ≡ false
unfolding pick
lost_place true x e = absurd (cc)
lost_place false x e = refl

-- std's test of each thing of a list is hume's
pub all_is : (f : ℕ → Bool) (xs : List ℕ) → list_all f xs ≡ all f xs
unfolding all
all_is f [] = refl
all_is f (x ∷ xs) = ap (λ (t : Bool). f x && t) (all_is f xs)

-- and over the numbers below n
pub every_is : (n : ℕ) (f : ℕ → Bool) → list_all f (range_with_len 0 n) ≡ every n f
every_is n f = all_is f (range_with_len 0 n) ∙ both_ways _ _ to from
  where
    at : (i : ℕ) → i < n → get_or (range_with_len 0 n) i 0 ≡ i
    at i h = get_or-range_with_len 0 n i 0 h ∙ zero-add i

    long : length (range_with_len 0 n) ≡ n
    long = length-range_with_len 0 n

    to : T (all f (range_with_len 0 n)) → T (every n f)
    to t =
        every_of n f
        (λ i h. subst (λ (k : ℕ). T (f k)) (at i h) (all_at f (range_with_len 0 n) 0 t i (omega (arith, long))))

    from : T (every n f) → T (all f (range_with_len 0 n))
    from t =
        all_of f (range_with_len 0 n) 0 (λ i h.
        let b : i < n = omega (arith, long) in
        subst (λ (k : ℕ). T (f k)) (sym (at i b)) (every_at n f t i b))
