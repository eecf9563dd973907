-- Words stored in an area one after the other, and what is left open beside them.
use mathlib.Core.Path.{◌≡◌, refl, sym, ap, ◌∙◌}
use mathlib.Core.List.{List, [], ◌∷◌, ◌++◌, append_assoc, append-nil}
use Prim.Native.Nat.{ℕ, suc, ◌+◌, ◌-◌, ◌≤◌, ◌<◌}
use native.Mathlib.Omega.{arith}
use native.Mathlib.Nat.{add-zero, ne_of_gt}
use native.Mathlib.Numerals.{add-one}
use lib.ListN.{length, set, take, drop, length-append, length-drop, take-append-drop}
use lib.Seq.{paste, sets, sets-eq, set_comm, take_at, take-add, take-suc-set, take-set-le, drop-set-lt, drop-set-add, length-take-le, drop-drop}
use Rattle.engine.specs.Copies.{Laid}

-- ---- stores in a row

-- one row after the other is one row
pub sets_append : (l : List ℕ) (i : ℕ) (a b : List ℕ) → sets (sets l i a) (i + length a) b ≡ sets l i (a ++ b)
sets_append l i [] b = ap (λ (k : ℕ). sets l k b) (add-zero i)
sets_append l i (x ∷ a) b =
    let e : i + suc (length a) ≡ suc i + length a = omega arith in
    ap (λ (k : ℕ). sets (sets (set l i x) (suc i) a) k b) e ∙ sets_append (set l i x) (suc i) a b

-- what is before a row, and what is after it
pub take_sets : (n : ℕ) (l : List ℕ) (i : ℕ) (a : List ℕ) → n ≤ i → take n (sets l i a) ≡ take n l
take_sets n l i [] h = refl
take_sets n l i (x ∷ a) h = take_sets n (set l i x) (suc i) a (omega arith) ∙ take-set-le n l i x h

pub drop_sets : (n : ℕ) (l : List ℕ) (i : ℕ) (a : List ℕ) → i + length a ≤ n → drop n (sets l i a) ≡ drop n l
drop_sets n l i [] h = refl
drop_sets n l i (x ∷ a) h = drop_sets n (set l i x) (suc i) a (omega arith) ∙ drop-set-lt n l i x (omega arith)

-- a store below a row may come first
pub set_sets : (l : List ℕ) (m k x : ℕ) (b : List ℕ) → k < m → set (sets l m b) k x ≡ sets (set l k x) m b
set_sets l m k x [] h = refl
set_sets l m k x (y ∷ b) h =
    set_sets (set l m y) (suc m) k x b (omega arith)
    ∙ ap (λ (z : List ℕ). sets z (suc m) b) (set_comm l m k y x (ne_of_gt h))

-- ---- words laid out

-- what is the same from one place on is so from a later one on
drop_later : (e f : ℕ) (l l' : List ℕ) → e ≤ f → drop e l' ≡ drop e l → drop f l' ≡ drop f l
drop_later e f l l' h same =
    let z : e + (f - e) ≡ f = omega arith in
    sym (ap (λ (n : ℕ). drop n l') z)
    ∙ sym (drop-drop (f - e) e l')
    ∙ ap (λ (x : List ℕ). drop (f - e) x) same
    ∙ drop-drop (f - e) e l
    ∙ ap (λ (n : ℕ). drop n l) z

pub laid_none : (at end : ℕ) (l : List ℕ) → Laid at end [] l l
laid_none at end l = record { below = rw (add-zero at, append-nil (take at l)) refl; above = refl }

pub laid_wide : {at end later : ℕ} {ws l l' : List ℕ} → end ≤ later → Laid at end ws l l' → Laid at later ws l l'
laid_wide {at} {end} {later} {ws} {l} {l'} h a =
    record { below = a.below; above = drop_later end later l l' h a.above }

-- one after the other
pub laid_then : {at mid end : ℕ} {a b l l₁ l₂ : List ℕ} → mid ≡ at + length a → Laid at end a l l₁ → Laid mid end b l₁ l₂
    → Laid at end (a ++ b) l l₂
laid_then {at} {mid} {end} {a} {b} {l} {l₁} {l₂} e x y =
    let n : at + length (a ++ b) ≡ mid + length b = let z = length-append a b in omega arith in
    record {
      below =
          ap (λ (k : ℕ). take k l₂) n
          ∙ y.below
          ∙ ap (λ (k : ℕ). take k l₁ ++ b) e
          ∙ ap (λ (z : List ℕ). z ++ b) x.below
          ∙ append_assoc (take at l) a b;
      above = y.above ∙ x.above;
    }

-- a store after them
pub laid_set : {at end : ℕ} {ws l l' : List ℕ} (j x : ℕ) → at + length ws ≤ j → j < end → Laid at end ws l l'
    → Laid at end ws l (set l' j x)
laid_set {at} {end} {ws} {l} {l'} j x h k a =
    record {
      below = take-set-le (at + length ws) l' j x h ∙ a.below;
      above = drop-set-lt end l' j x k ∙ a.above;
    }

module _ (at : ℕ) (ws l : List ℕ) (h : at + length ws ≤ length l) where
  front : length (take at l ++ ws) ≡ at + length ws
  front =
      let a = length-append (take at l) ws in
      let b = length-take-le at l (omega arith) in
      omega arith

  -- stores in a row
  pub laid_sets : (end : ℕ) → at + length ws ≤ end → Laid at end ws l (sets l at ws)
  laid_sets end k =
      record {
        below = rw (sets-eq ws l at h) (take_at (take at l ++ ws) (drop (at + length ws) l) (at + length ws) front);
        above = drop_sets end l at ws k;
      }

  -- and where nothing is left open, they are all that was stored
  pub laid_whole : {l' : List ℕ} → Laid at (at + length ws) ws l l' → l' ≡ sets l at ws
  laid_whole {l'} a =
      sym (take-append-drop (at + length ws) l')
      ∙ ap (λ (z : List ℕ). z ++ drop (at + length ws) l') a.below
      ∙ ap (λ (z : List ℕ). (take at l ++ ws) ++ z) a.above
      ∙ sym (sets-eq ws l at h)

pub laid_pair : (at end h x : ℕ) (l : List ℕ) → at + 2 ≤ end → at + 2 ≤ length l
    → Laid at end (h ∷ x ∷ []) l (set (set l at h) (at + 1) x)
laid_pair at end h x l k i = rw add-one (laid_sets at (h ∷ x ∷ []) l i end k)

-- ---- words moved to a lower place

module _ (from to : ℕ) (l : List ℕ) where
  moved_long : (n : ℕ) → from + n ≤ length l → length (take n (drop from l)) ≡ n
  moved_long n h = let a = length-drop from l in length-take-le n (drop from l) (omega arith)

  pub moved_all : (n m : ℕ) → to ≤ from → from + n ≤ length l → m ≡ n → paste l to (drop from l) m ≡ sets l to (take n (drop from l))
  moved_all n m h i e =
      let z : length (take n (drop from l)) ≡ n = moved_long n i in
      rw e
      (sym
      (sets-eq (take n (drop from l)) l to (omega arith)
      ∙ ap (λ (k : ℕ). take to l ++ take n (drop from l) ++ drop (to + k) l) z))

  pub moved_there : (n : ℕ) → to ≡ from → from + n ≤ length l → l ≡ sets l to (take n (drop from l))
  moved_there n e h =
      let m = moved_long n h in
      let s : take to l ++ take n (drop from l) ≡ take (to + n) l =
      ap (λ (k : ℕ). take to l ++ take n (drop k l)) (sym e) ∙ sym (take-add to n l) in
      sym
      (sets-eq (take n (drop from l)) l to (omega arith)
      ∙ ap (λ (y : List ℕ). y ++ drop (to + length (take n (drop from l))) l) s
      ∙ ap (λ (k : ℕ). take (to + n) l ++ drop (to + k) l) m
      ∙ take-append-drop (to + n) l)

-- ---- words that wait

-- one more
pub waits_next : (base k x : ℕ) (l : List ℕ) → base + k < length l
    → take (k + 1) (drop base (set l (base + k) x)) ≡ take k (drop base l) ++ x ∷ []
waits_next base k x l h =
    let d = length-drop base l in
    ap (λ (y : ℕ). take y (drop base (set l (base + k) x))) (add-one k)
    ∙ ap (λ (y : List ℕ). take (suc k) y) (drop-set-add base l k x)
    ∙ take-suc-set (drop base l) k x (omega arith)
