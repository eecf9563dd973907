-- Laws of a permutation of 0..n-1: no word is too large, none stands twice, and these two are enough.
use mathlib.Core.Path.{◌≡◌, refl, sym, ap, ◌∙◌, subst}
use mathlib.Core.Bool.{Bool, true, false, ◌||◌}
use mathlib.Core.List.{List, [], ◌∷◌, ◌++◌}
use Prim.Native.Nat.{ℕ, zero, suc, ◌+◌, ◌≤◌, ◌<◌}
use native.Mathlib.Nat.{not-suc-le-zero, le_of_suc-le-suc}
use native.Mathlib.Decide.{ℕ_discrete}
use native.Mathlib.Omega.{arith}
use lib.Dec.{T, eqb, eqb→eq}
use lib.ListN.{length, get_or, take, drop, length-append}
use lib.Seq.{split_at, length-take-le, get_or-take}
use Rattle.hume.specs.Refusals.{among, permutation}
use Rattle.laws.proofs.Tests.{Tested, passes, misses, tested, of_true, and_left, and_right, and_both, OneOf, one, other, or_cases, or_left, or_right, every_at, every_of, eqb_of}

-- ---- among, by index

-- The element at a place is among the words.
pub among_at : (ws : List ℕ) (i : ℕ) → i < length ws → T (among (get_or ws i 0) ws)
unfolding among
among_at [] i h = absurd (not-suc-le-zero h)
among_at (y ∷ ys) zero h = or_left (eqb y y) _ (eqb_of y y refl)
among_at (y ∷ ys) (suc i) h = or_right (eqb (get_or ys i 0) y) _ (among_at ys i (le_of_suc-le-suc h))

-- A number that is among the words stands somewhere.
pub among_where : (x : ℕ) (ws : List ℕ) → T (among x ws) → (i : ℕ) × (i < length ws) × (get_or ws i 0 ≡ x)
unfolding among
among_where x [] t = absurd t
among_where x (y ∷ ys) t = by (or_cases (eqb x y) (among x ys) t) (among_where x ys)
  where
    by : OneOf (eqb x y) (among x ys) → (T (among x ys) → (i : ℕ) × (i < length ys) × (get_or ys i 0 ≡ x))
        → (i : ℕ) × (i < suc (length ys)) × (get_or (y ∷ ys) i 0 ≡ x)
    by (one e) later = (0, omega arith, sym (eqb→eq x y e))
    by (other a) later =
        let r = later a in
        let h : r.0 < length ys = r.1 in
        (suc r.0, omega arith, r.2)

-- What is among one of two lists is among both, one after the other.
pub among_left : (x : ℕ) (us ws : List ℕ) → T (among x us) → T (among x (us ++ ws))
unfolding among
among_left x [] ws t = absurd t
among_left x (y ∷ us) ws t = by (or_cases (eqb x y) (among x us) t) (among_left x us ws)
  where
    by : OneOf (eqb x y) (among x us) → (T (among x us) → T (among x (us ++ ws))) → T (eqb x y || among x (us ++ ws))
    by (one e) later = or_left (eqb x y) _ e
    by (other a) later = or_right (eqb x y) _ (later a)

pub among_right : (x : ℕ) (us ws : List ℕ) → T (among x ws) → T (among x (us ++ ws))
unfolding among
among_right x [] ws t = t
among_right x (y ∷ us) ws t = or_right (eqb x y) _ (among_right x us ws t)

-- and what is among both is among one of them
pub among_parts : (x : ℕ) (us ws : List ℕ) → T (among x (us ++ ws)) → OneOf (among x us) (among x ws)
unfolding among
among_parts x [] ws t = other t
among_parts x (y ∷ us) ws t = by (or_cases (eqb x y) (among x (us ++ ws)) t) (among_parts x us ws)
  where
    next : OneOf (among x us) (among x ws) → OneOf (eqb x y || among x us) (among x ws)
    next (one a) = one (or_right (eqb x y) _ a)
    next (other a) = other a

    by : OneOf (eqb x y) (among x (us ++ ws)) → (T (among x (us ++ ws)) → OneOf (among x us) (among x ws))
        → OneOf (eqb x y || among x us) (among x ws)
    by (one e) later = one (or_left (eqb x y) _ e)
    by (other a) later = next (later a)

-- ---- pigeonhole

-- the list without the first x in it
remove_if : Bool → ℕ → List ℕ → List ℕ → List ℕ
remove_if true y ys rest = ys
remove_if false y ys rest = y ∷ rest

remove : ℕ → List ℕ → List ℕ
remove x [] = []
remove x (y ∷ ys) = remove_if (eqb x y) y ys (remove x ys)

remove_length : (x : ℕ) (ws : List ℕ) → T (among x ws) → suc (length (remove x ws)) ≡ length ws
unfolding among remove remove_if
remove_length x [] t = absurd t
remove_length x (y ∷ ys) t = by (eqb x y) t (remove_length x ys)
  where
    by : (b : Bool) → T (b || among x ys) → (T (among x ys) → suc (length (remove x ys)) ≡ length ys)
        → suc (length (remove_if b y ys (remove x ys))) ≡ suc (length ys)
    by true u later = refl
    by false u later = ap suc (later u)

-- what is among the words, other than x, is left when x is removed
remove_among : (x z : ℕ) (ws : List ℕ) → (z ≡ x → ⊥) → T (among z ws) → T (among z (remove x ws))
unfolding among remove remove_if
remove_among x z [] k t = t
remove_among x z (y ∷ ys) k t = by (eqb x y) (eqb→eq x y) (or_cases (eqb z y) (among z ys) t) (remove_among x z ys k)
  where
    by : (b : Bool) → (T b → x ≡ y) → OneOf (eqb z y) (among z ys) → (T (among z ys) → T (among z (remove x ys)))
        → T (among z (remove_if b y ys (remove x ys)))
    by true q (one e) later = absurd (k (eqb→eq z y e ∙ sym (q tt)))
    by true q (other a) later = a
    by false q (one e) later = or_left (eqb z y) _ e
    by false q (other a) later = or_right (eqb z y) _ (later a)

-- n words at most, among which is each number below n, are all below n
pigeons : (n : ℕ) (ws : List ℕ) → length ws ≤ n → ((x : ℕ) → x < n → T (among x ws)) → (y : ℕ) → T (among y ws) → y < n
unfolding among
pigeons zero [] h k y t = absurd t
pigeons zero (w ∷ ws) h k y t = absurd (not-suc-le-zero h)
pigeons (suc n) ws h k y t = by (ℕ_discrete y n) (pigeons n (remove n ws))
  where
    len : suc (length (remove n ws)) ≡ length ws
    len = remove_length n ws (k n (omega arith))

    lower : (x : ℕ) → x < n → T (among x (remove n ws))
    lower x l = remove_among n x ws (omega arith) (k x (omega arith))

    by : Dec (y ≡ n)
        → (length (remove n ws) ≤ n → ((x : ℕ) → x < n → T (among x (remove n ws))) → (z : ℕ)
        → T (among z (remove n ws)) → z < n)
        → y < suc n
    by (yes e) later = omega arith
    by (no q) later =
        let s : length (remove n ws) ≤ n = omega (arith, len) in
        let r : y < n = later s lower y (remove_among n y ws q t) in
        omega arith

-- words among which is each number below n are n at least
enough : (n : ℕ) (ws : List ℕ) → ((x : ℕ) → x < n → T (among x ws)) → n ≤ length ws
enough zero ws k = omega arith
enough (suc n) ws k = by (enough n (remove n ws))
  where
    len : suc (length (remove n ws)) ≡ length ws
    len = remove_length n ws (k n (omega arith))

    by : (((x : ℕ) → x < n → T (among x (remove n ws))) → n ≤ length (remove n ws)) → suc n ≤ length ws
    by later =
        let r : n ≤ length (remove n ws) = later (λ x l. remove_among n x ws (omega arith) (k x (omega arith))) in
        omega (arith, len)

-- The words of a permutation of 0..n-1 are below n.
pub permutation_lt : (n : ℕ) (ws : List ℕ) → T (permutation n ws) → (i : ℕ) → i < n → get_or ws i 0 < n
unfolding permutation
permutation_lt n ws t i h =
    let e : length ws ≡ n = eqb→eq (length ws) n (and_left (eqb (length ws) n) _ t) in
    let all = and_right (eqb (length ws) n) _ t in
    pigeons n ws (omega arith) (every_at n (λ x. among x ws) all) (get_or ws i 0) (among_at ws i (omega arith))

-- None of them stands before itself.
pub permutation_once : (n : ℕ) (ws : List ℕ) → T (permutation n ws) → (i : ℕ) → i < n
    → T (among (get_or ws i 0) (take i ws)) → ⊥
unfolding permutation
permutation_once n ws t i h twice = absurd (omega (arith, few))
  where
    e : length ws ≡ n
    e = eqb→eq (length ws) n (and_left (eqb (length ws) n) _ t)

    all : (x : ℕ) → x < n → T (among x ws)
    all = every_at n (λ x. among x ws) (and_right (eqb (length ws) n) _ t)

    others : List ℕ
    others = take i ws ++ drop (suc i) ws

    split : ws ≡ take i ws ++ get_or ws i 0 ∷ drop (suc i) ws
    split = split_at ws i 0 (omega (arith, e))

    tail : (x : ℕ) → OneOf (eqb x (get_or ws i 0)) (among x (drop (suc i) ws)) → T (among x others)
    tail x (one u) =
        among_left x (take i ws) (drop (suc i) ws)
        (subst (λ (y : ℕ). T (among y (take i ws))) (sym (eqb→eq x (get_or ws i 0) u)) twice)
    tail x (other a) = among_right x (take i ws) (drop (suc i) ws) a

    part : (x : ℕ) → OneOf (among x (take i ws)) (among x (get_or ws i 0 ∷ drop (suc i) ws)) → T (among x others)
    part x (one a) = among_left x (take i ws) (drop (suc i) ws) a
    part x (other a) = tail x (or_cases (eqb x (get_or ws i 0)) (among x (drop (suc i) ws)) (unfold among in a))

    kept : (x : ℕ) → T (among x ws) → T (among x others)
    kept x a =
        part x (among_parts x (take i ws) (get_or ws i 0 ∷ drop (suc i) ws)
        (subst (λ (l : List ℕ). T (among x l)) split a))

    some : n ≤ length others
    some = enough n others (λ x l. kept x (all x l))

    few : suc n ≤ n
    few =
        let a : length others ≡ length (take i ws) + length (drop (suc i) ws) =
        length-append (take i ws) (drop (suc i) ws) in
        let b : length (take i ws ++ get_or ws i 0 ∷ drop (suc i) ws)
        ≡ length (take i ws) + suc (length (drop (suc i) ws)) =
        length-append (take i ws) (get_or ws i 0 ∷ drop (suc i) ws) in
        let d : length ws ≡ length (take i ws ++ get_or ws i 0 ∷ drop (suc i) ws) = ap length split in
        let s : n ≤ length others = some in
        omega (arith, e)

-- ---- and back: distinct words below n, n of them

-- the numbers below n
below : ℕ → List ℕ
below zero = []
below (suc n) = n ∷ below n

below_length : (n : ℕ) → length (below n) ≡ n
unfolding below
below_length zero = refl
below_length (suc n) = ap suc (below_length n)

below_among : (n x : ℕ) → x < n → T (among x (below n))
unfolding below among
below_among zero x h = absurd (not-suc-le-zero h)
below_among (suc n) x h = by (ℕ_discrete x n) (below_among n x)
  where
    by : Dec (x ≡ n) → (x < n → T (among x (below n))) → T (eqb x n || among x (below n))
    by (yes e) later = or_left (eqb x n) _ (eqb_of x n e)
    by (no k) later = or_right (eqb x n) _ (later (omega arith))

-- the first l words, none of which stands before itself, are no more than the words that they are among
crowd : (ws us : List ℕ) (l : ℕ) → l ≤ length ws
    → ((j : ℕ) → j < l → T (among (get_or ws j 0) (take j ws)) → ⊥)
    → ((j : ℕ) → j < l → T (among (get_or ws j 0) us))
    → l ≤ length us
crowd ws us zero h once in-us = omega arith
crowd ws us (suc l) h once in-us = by (crowd ws (remove y us) l (omega arith) (λ j k. once j (omega arith)) left)
  where
    y : ℕ
    y = get_or ws l 0

    len : suc (length (remove y us)) ≡ length us
    len = remove_length y us (in-us l (omega arith))

    long : length (take l ws) ≡ l
    long = length-take-le l ws (omega arith)

    differ : (j : ℕ) → j < l → get_or ws j 0 ≡ y → ⊥
    differ j k e =
        once l (omega arith)
        (subst (λ (z : ℕ). T (among z (take l ws))) (get_or-take l ws j 0 k ∙ e)
        (among_at (take l ws) j (omega (arith, long))))

    left : (j : ℕ) → j < l → T (among (get_or ws j 0) (remove y us))
    left j k = remove_among y (get_or ws j 0) us (differ j k) (in-us j (omega arith))

    by : l ≤ length (remove y us) → suc l ≤ length us
    by r = omega (arith, len)

-- Words that are below their number, none of which stands before itself, are a permutation.
pub permutation_of : (ws : List ℕ) → ((j : ℕ) → j < length ws → get_or ws j 0 < length ws)
    → ((j : ℕ) → j < length ws → T (among (get_or ws j 0) (take j ws)) → ⊥)
    → T (permutation (length ws) ws)
unfolding permutation
permutation_of ws low once =
    and_both (eqb (length ws) (length ws)) _ (eqb_of (length ws) (length ws) refl)
    (every_of (length ws) (λ x. among x ws) (λ x h. found x h (tested (among x ws))))
  where
    -- x aside, there are not enough numbers for all the words
    missing : (x : ℕ) → x < length ws → (T (among x ws) → ⊥) → ⊥
    missing x h absent = absurd (omega (arith, fit, len, below_length (length ws)))
      where
        us : List ℕ
        us = remove x (below (length ws))

        len : suc (length us) ≡ length (below (length ws))
        len = remove_length x (below (length ws)) (below_among (length ws) x h)

        each : (j : ℕ) → j < length ws → T (among (get_or ws j 0) us)
        each j k =
            remove_among x (get_or ws j 0) (below (length ws))
            (λ e. absent (subst (λ (z : ℕ). T (among z ws)) e (among_at ws j k)))
            (below_among (length ws) (get_or ws j 0) (low j k))

        fit : length ws ≤ length us
        fit = crowd ws us (length ws) (omega arith) once each

    found : (x : ℕ) → x < length ws → Tested (among x ws) → T (among x ws)
    found x h (passes e) = of_true e
    found x h (misses e) = absurd (missing x h (λ t. subst T e t))
