-- Laws of what is lent besides the image.
use mathlib.Core.Path.{◌≡◌, refl, sym, ap, ◌∙◌, subst}
use mathlib.Core.Bool.{Bool, true, false}
use mathlib.Core.List.{List, [], ◌∷◌, ◌++◌}
use Prim.Native.Nat.{ℕ, zero, suc, ◌+◌, ◌-◌, ◌*◌, ◌≤◌, ◌<◌}
use native.Mathlib.Nat.{not-suc-le-zero}
use native.Mathlib.Decide.{ℕ_discrete}
use native.Mathlib.Numerals.{add-one}
use native.Mathlib.Omega.{arith}
use borrow.Author.Tests.{eq-eqb, ne_eqb}
use lib.Dec.{T, eqb, eqb→eq}
use lib.ListN.{length, get_or, take, drop, set, length-drop}
use lib.Seq.{length-take-le, take-suc, get_or-set_same, get_or-set_other}
use Rattle.hume.specs.Tests.{every}
use Rattle.hume.specs.Image.{Program, program, byte, order_at}
use Rattle.hume.specs.Refusals.{image_refusal, wires_ok, among, permutation, order_of, order_ok}
use Rattle.hume.specs.Values.{wire_ok}
use Rattle.laws.proofs.Tests.{to_true, of_true, to_false, OneOf, one, other, or_cases, or_left, eqb_of}
use Rattle.laws.proofs.Permutation.{permutation_lt, permutation_once, permutation_of, among_left, among_right, among_parts}
use Rattle.laws.proofs.Passed.{image_passed}
use Rattle.gate.proofs.Rulesets.{Counted, counted}
use Rattle.gate.proofs.Tests.{both_ways, and_yes, and_no, every_yes, every_no}

-- ---- the wires

module _ (m w : List ℕ) (n : ℕ) (e : n ≡ (program m).inputs + (program m).outputs) where
  pub wires_long : (length w ≡ 65 * n → ⊥) → wires_ok (program m) w ≡ false
  unfolding wires_ok
  wires_long k =
      let P = program m in
      and_no _ _ (ne_eqb (length w) (65 * (P.inputs + P.outputs)) (λ q. k (omega arith)))

  pub wires_each : length w ≡ 65 * n → every n (wire_ok w) ≡ wires_ok (program m) w
  unfolding wires_ok
  wires_each k =
      let P = program m in
      (λ j. every (e j) (wire_ok w))
      ∙ sym (and_yes _ _ (eq-eqb (length w) (65 * (P.inputs + P.outputs)) (omega arith)))

-- ---- the rule order

-- a ruleset's part ends before a later one begins
parts : (P : Program) (r q : ℕ) → r < q → order_at P r + P.count r ≤ order_at P q
unfolding order_at
parts P r zero h = absurd (not-suc-le-zero h)
parts P r (suc q) h = by (ℕ_discrete r q) (parts P r q)
  where
    by : Dec (r ≡ q) → (r < q → order_at P r + P.count r ≤ order_at P q)
        → order_at P r + P.count r ≤ order_at P q + P.count q
    by (yes e) later = subst (λ (k : ℕ). order_at P r + P.count r ≤ order_at P k + P.count k) e (omega arith)
    by (no k) later =
        let l : order_at P r + P.count r ≤ order_at P q = later (omega arith) in
        omega arith

order_suc : (P : Program) (r : ℕ) → order_at P (r + 1) ≡ order_at P r + P.count r
unfolding order_at
order_suc P r = rw add-one refl

-- the part of the ruleset r, from one place to another, as it is lent
pub record Part (P : Program) (order : List ℕ) (from to r : ℕ) : Type 0 where
  pub long : length order ≡ order_at P P.rulesets
  pub low : r < P.rulesets
  pub up : from ≤ to
  pub within : to ≤ length order
  pub short : length (take (to - from) (drop from order)) ≤ 16
  pub is : permutation (P.count r) (order_of P order r)
      ≡ permutation (length (take (to - from) (drop from order))) (take (to - from) (drop from order))

part_of : (P : Program) (order : List ℕ) (from to r : ℕ) → Counted P → length order ≡ order_at P P.rulesets
    → r < P.rulesets
    → from ≡ order_at P r → to ≡ order_at P (r + 1) → Part P order from to r
unfolding order_of
part_of P order from to r ok e h ef et =
    let s : order_at P (r + 1) ≡ order_at P r + P.count r = order_suc P r in
    let p : order_at P r + P.count r ≤ order_at P P.rulesets = parts P r P.rulesets h in
    let most : P.count r ≤ 16 = ok.rules r h in
    let n : to - from ≡ P.count r = omega arith in
    let d : length (drop from order) ≡ length order - from = length-drop from order in
    let l : length (take (to - from) (drop from order)) ≡ to - from =
    length-take-le (to - from) (drop from order) (omega arith) in
    record {
      long = e;
      low = h;
      up = omega arith;
      within = omega arith;
      short = omega arith;
      is = sym (λ j. permutation ((l ∙ n) j) (take (n j) (drop (ef j) order)));
    }

-- an accepted image's n rulesets, and a list of where their parts begin
module _ (m order places : List ℕ) (ok : image_refusal m ≡ 0) (n : ℕ) (en : n ≡ byte m 7) where
  pub rulesets_few : n ≤ 32
  unfolding program
  rulesets_few = let few = (counted m (program m) (image_passed m ok).counts).rulesets in omega arith

  module _ (at : (k : ℕ) → k < 33 → get_or places k 0 ≡ order_at (program m) k) where
    pub whole_order : get_or places n 0 ≡ order_at (program m) (program m).rulesets
    unfolding program
    whole_order = at n (let few = rulesets_few in omega arith) ∙ ap (order_at (program m)) en

    pub lent_part : length order ≡ get_or places n 0 → (r : ℕ) → r < n
        → Part (program m) order (get_or places r 0) (get_or places (r + 1) 0) r
    unfolding program
    lent_part e r h =
        let few : n ≤ 32 = rulesets_few in
        part_of (program m) order (get_or places r 0) (get_or places (r + 1) 0) r
        (counted m (program m) (image_passed m ok).counts)
        (e ∙ whole_order) (omega arith) (at r (omega arith)) (at (r + 1) (omega arith))

module _ (P : Program) (order : List ℕ) where
  pub order_long : (length order ≡ order_at P P.rulesets → ⊥) → order_ok P order ≡ false
  unfolding order_ok
  order_long n = and_no _ _ (ne_eqb (length order) (order_at P P.rulesets) n)

  module _ (e : length order ≡ order_at P P.rulesets) where
    pub order_out : (r : ℕ) → r < P.rulesets → permutation (P.count r) (order_of P order r) ≡ false
        → order_ok P order ≡ false
    unfolding order_ok
    order_out r h n =
        and_yes _ _ (eq-eqb (length order) (order_at P P.rulesets) e)
        ∙ every_no P.rulesets (λ r. permutation (P.count r) (order_of P order r)) r h n

    pub order_in : ((r : ℕ) → r < P.rulesets → permutation (P.count r) (order_of P order r) ≡ true)
        → order_ok P order ≡ true
    unfolding order_ok
    order_in y =
        and_yes _ _ (eq-eqb (length order) (order_at P P.rulesets) e)
        ∙ every_yes P.rulesets (λ r. permutation (P.count r) (order_of P order r)) y

-- ---- one ruleset's part, by what was seen of it

module _ (s : List ℕ) (i : ℕ) (h : i < length s) where
  pub order_high : length s ≤ get_or s i 0 → permutation (length s) s ≡ false
  order_high k = to_false (λ t. omega (arith, permutation_lt (length s) s t i h))

  pub order_twice : among (get_or s i 0) (take i s) ≡ true → permutation (length s) s ≡ false
  order_twice e = to_false (λ t. permutation_once (length s) s t i h (of_true e))

  -- the words up to i, and the one at i
  among_more : (y : ℕ) → (y ≡ get_or s i 0 → ⊥) → among y (take i s) ≡ among y (take (i + 1) s)
  unfolding among
  among_more y n =
      let e : take (i + 1) s ≡ take i s ++ get_or s i 0 ∷ [] = rw add-one (take-suc s i 0 h) in
      rw e (both_ways _ _ (among_left y (take i s) (get_or s i 0 ∷ []))
      (λ t. back (among_parts y (take i s) (get_or s i 0 ∷ []) t)))
    where
      last : OneOf (eqb y (get_or s i 0)) false → T (among y (take i s))
      last (one t) = absurd (n (eqb→eq y (get_or s i 0) t))
      last (other t) = absurd t

      back : OneOf (among y (take i s)) (among y (get_or s i 0 ∷ [])) → T (among y (take i s))
      back (one t) = t
      back (other t) = last (or_cases (eqb y (get_or s i 0)) false t)

  among_last : among (get_or s i 0) (take (i + 1) s) ≡ true
  unfolding among
  among_last =
      let e : take (i + 1) s ≡ take i s ++ get_or s i 0 ∷ [] = rw add-one (take-suc s i 0 h) in
      rw e
      (to_true
      (among_right (get_or s i 0) (take i s) (get_or s i 0 ∷ [])
      (or_left (eqb (get_or s i 0) (get_or s i 0)) _ (eqb_of (get_or s i 0) (get_or s i 0) refl))))

  -- the marks after one more word
  pub seen_more : (seen : List Bool) → get_or s i 0 < length seen
      → ((y : ℕ) → y < 16 → get_or seen y false ≡ among y (take i s))
      → (y : ℕ) → y < 16 → get_or (set seen (get_or s i 0) true) y false ≡ among y (take (i + 1) s)
  seen_more seen k old y b = by (ℕ_discrete y (get_or s i 0))
    where
      by : Dec (y ≡ get_or s i 0) → get_or (set seen (get_or s i 0) true) y false ≡ among y (take (i + 1) s)
      by (yes e) =
          subst (λ (z : ℕ). get_or (set seen (get_or s i 0) true) z false ≡ among z (take (i + 1) s)) (sym e)
          (get_or-set_same seen (get_or s i 0) true false k ∙ sym among_last)
      by (no n) = get_or-set_other seen (get_or s i 0) y true false n ∙ old y b ∙ among_more y n

pub order_right : (s : List ℕ) → ((j : ℕ) → j < length s → get_or s j 0 < length s)
    → ((j : ℕ) → j < length s → among (get_or s j 0) (take j s) ≡ false) → permutation (length s) s ≡ true
order_right s low once = to_true (permutation_of s low (λ j h t. subst T (once j h) t))
