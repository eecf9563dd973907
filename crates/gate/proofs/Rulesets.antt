-- Laws of the image's counts and of its ruleset table, read from the front.
use mathlib.Core.Path.{◌≡◌, refl, sym, ap, ◌∙◌}
use mathlib.Core.Bool.{Bool, true, false, ◌&&◌, ◌||◌}
use mathlib.Core.List.{List}
use Prim.Native.Nat.{ℕ, ◌+◌, ◌*◌, ◌≤◌, ◌<◌}
use native.Mathlib.Numerals.{add-one}
use native.Mathlib.Omega.{arith}
use borrow.Author.Count.{below_none, below_more}
use borrow.Author.Tests.{lt-ltb, le-ltb}
use lib.Dec.{T, leb, ltb, eqb, leb→le}
use lib.ListN.{length, get_or, set, get_or-eq_default}
use lib.Seq.{get_or-set_same, get_or-set_other}
use Rattle.hume.specs.Tests.{pick, every}
use Rattle.hume.specs.Image.{Program, program, byte, half, full, ruleset_at, code_at, order_at}
use Rattle.hume.specs.Refusals.{counts_ok, ruleset_ok}
use Rattle.std.specs.Prelude.{Some, None}
use Rattle.gate.specs.declared.image.Header.{Header}
use Rattle.gate.specs.Parts.{HeaderOf, ranges_ok, count_ok, counts_end, rules_ok}
use Rattle.laws.proofs.Tests.{and_left, and_right, of_true, every_at}
use Rattle.gate.proofs.Tests.{and_yes, and_no, regroup, every_yes, every_no, found_yes, found_no, found_place, lost_place}

-- ---- past the end there are zeros

pub half_past : (m : List ℕ) (i : ℕ) → length m ≤ i → 0 ≡ half m i
unfolding half byte
half_past m i h =
    let a : get_or m i 0 ≡ 0 = get_or-eq_default m 0 h in
    let b : get_or m (i + 1) 0 ≡ 0 = get_or-eq_default m 0 (omega arith) in
    omega arith

pub full_past : (m : List ℕ) (i : ℕ) → length m ≤ i → 0 ≡ full m i
unfolding full
full_past m i h =
    let a : 0 ≡ half m i = half_past m i h in
    let b : 0 ≡ half m (i + 2) = half_past m (i + 2) (omega arith) in
    omega arith

-- ---- from a ruleset to the next

module _ (m : List ℕ) (r at count : ℕ) (ea : at ≡ ruleset_at m r) (ec : count ≡ byte m (at + 2)) where
  pub ruleset_next : at + (3 + 2 * count) ≡ ruleset_at m (r + 1)
  unfolding ruleset_at
  ruleset_next =
      let e : count ≡ byte m (ruleset_at m r + 2) = ec ∙ ap (λ (p : ℕ). byte m (p + 2)) ea in
      rw add-one (omega arith)

  pub count_is : count ≡ (program m).count r
  unfolding program
  count_is = ec ∙ ap (λ (p : ℕ). byte m (p + 2)) ea

  pub count_range : count_ok (program m) r ≡ (leb 1 count && leb count 16)
  count_range = ap (λ (k : ℕ). leb 1 k && leb k 16) (sym count_is)

-- ---- over the rulesets from the first on

-- those below r pass the test, and the next begins at the place
pub record Walked (m : List ℕ) (test : ℕ → Bool) (r at : ℕ) : Type 0 where
  pub here : at ≡ ruleset_at m r
  pub passed : (k : ℕ) → k < r → test k ≡ true

module _ (m : List ℕ) (test : ℕ → Bool) where
  pub walked_none : Walked m test 0 11
  unfolding ruleset_at
  walked_none = record { here = refl; passed = below_none _ }

  pub walked_more : (r at count : ℕ) → Walked m test r at → count ≡ byte m (at + 2) → test r ≡ true
      → Walked m test (r + 1) (at + (3 + 2 * count))
  walked_more r at count w ec t =
      record { here = ruleset_next m r at count w.here ec; passed = below_more _ _ w.passed t }

  pub walked_all : (n r at : ℕ) → Walked m test r at → r ≡ n
      → Some at ≡ pick (every n test) (Some (ruleset_at m n)) None
  walked_all n r at w e =
      found_yes _ _ _ (every_yes n test (λ k h. w.passed k (omega arith))) (w.here ∙ ap (ruleset_at m) e)

  pub walked_out : (n r : ℕ) → r < n → test r ≡ false → None ≡ pick (every n test) (Some (ruleset_at m n)) None
  walked_out n r h t = found_no _ _ (every_no n test r h t)

pub order_next : (m : List ℕ) (r from count : ℕ) → from ≡ order_at (program m) r → count ≡ (program m).count r
    → from + count ≡ order_at (program m) (r + 1)
unfolding order_at
order_next m r from count ef ec = rw add-one (omega arith)

-- ---- all the counts

counts_are : (m : List ℕ)
    → counts_ok m (program m) ≡ (ranges_ok (byte m 5) (byte m 6) (byte m 7) (byte m 8) (half m 9)
    && (every (byte m 7) (count_ok (program m)) && eqb (ruleset_at m (byte m 7) + 8 * half m 9) (length m)))
unfolding counts_ok ranges_ok program code_at
counts_are m =
    let P = program m in
    regroup (leb P.inputs 8) (leb P.outputs 8) (leb 1 P.rulesets) (leb P.rulesets 32)
    (ltb P.handler P.rulesets || eqb P.handler 255) (leb 1 P.size) (leb P.size 4096) _

module _ (m : List ℕ) (h : Header) (e : HeaderOf m h) where
  abbrev in_range : Bool
  in_range = ranges_ok h.inputs h.outputs h.rulesets h.handler h.size

  counts_with : counts_ok m (program m)
      ≡ (in_range && (every h.rulesets (count_ok (program m)) && eqb (ruleset_at m h.rulesets + 8 * h.size) (length m)))
  counts_with =
      counts_are m
      ∙ sym (λ j. ranges_ok (e j).inputs (e j).outputs (e j).rulesets (e j).handler (e j).size
      && (every (e j).rulesets (count_ok (program m))
      && eqb (ruleset_at m (e j).rulesets + 8 * (e j).size) (length m)))

  pub counts_out : in_range ≡ false → counts_ok m (program m) ≡ false
  counts_out n = counts_with ∙ and_no _ _ n

  module _ (y : in_range ≡ true) where
    pub counts_lost : None ≡ counts_end m h.rulesets → counts_ok m (program m) ≡ false
    counts_lost z = counts_with ∙ and_yes _ _ y ∙ and_no _ _ (lost_place _ _ z)

    pub counts_end_lem : (r : ℕ) → Some r ≡ counts_end m h.rulesets
        → eqb (r + 8 * h.size) (length m) ≡ counts_ok m (program m)
    counts_end_lem r k =
        let f = found_place _ _ r k in
        ap (λ (p : ℕ). eqb (p + 8 * h.size) (length m)) f.is
        ∙ sym (counts_with ∙ and_yes _ _ y ∙ and_yes _ _ f.passes)

-- what the ranges say of the number of rulesets
pub ranges_rulesets : (i o n h s : ℕ) → ranges_ok i o n h s ≡ true → n ≤ 32
unfolding ranges_ok
ranges_rulesets i o n h s e =
    let t1 = and_right (leb i 8) _ (of_true e) in
    let t2 = and_right (leb o 8) _ t1 in
    let t3 = and_right (leb 1 n) _ t2 in
    leb→le n 32 (and_left (leb n 32) _ t3)

-- what counts in their ranges say of the sizes that the other tests rely on
pub record Counted (P : Program) : Type 0 where
  pub rulesets : P.rulesets ≤ 32
  pub size : 1 ≤ P.size
  pub rules : (r : ℕ) → r < P.rulesets → P.count r ≤ 16

pub counted : (m : List ℕ) (P : Program) → T (counts_ok m P) → Counted P
unfolding counts_ok
counted m P t =
    let t1 = and_right (leb P.inputs 8) _ t in
    let t2 = and_right (leb P.outputs 8) _ t1 in
    let t3 = and_right (leb 1 P.rulesets) _ t2 in
    let t4 = and_right (leb P.rulesets 32) _ t3 in
    let t5 = and_right (ltb P.handler P.rulesets || eqb P.handler 255) _ t4 in
    let t6 = and_right (leb 1 P.size) _ t5 in
    let t7 = and_right (leb P.size 4096) _ t6 in
    let t8 = and_left (every P.rulesets (count_ok P)) _ t7 in
    record {
      rulesets = leb→le P.rulesets 32 (and_left (leb P.rulesets 32) _ t3);
      size = leb→le 1 P.size (and_left (leb 1 P.size) _ t5);
      rules = λ r h.
          leb→le (P.count r) 16 (and_right (leb 1 (P.count r)) _ (every_at P.rulesets (count_ok P) t8 r h));
    }

-- ---- addresses

module _ (m : List ℕ) (r at size : ℕ) (ea : at ≡ ruleset_at m r) (es : size ≡ half m 9) where
  pub entry_out : (x : ℕ) → x ≡ half m at → size ≤ x → ruleset_ok (program m) r ≡ false
  unfolding ruleset_ok program
  entry_out x ex h =
      let e : x ≡ half m (ruleset_at m r) = ex ∙ ap (half m) ea in
      and_no _ _ (le-ltb (half m (ruleset_at m r)) (half m 9) (omega arith))

  pub rules_are : (x count : ℕ) → x ≡ half m at → x < size → count ≡ byte m (at + 2)
      → ruleset_ok (program m) r ≡ rules_ok m (at + 3) count size
  unfolding ruleset_ok program rules_ok
  rules_are x count ex h ec =
      let e : x ≡ half m (ruleset_at m r) = ex ∙ ap (half m) ea in
      let c : count ≡ byte m (ruleset_at m r + 2) = ec ∙ ap (λ (p : ℕ). byte m (p + 2)) ea in
      and_yes _ _ (lt-ltb (half m (ruleset_at m r)) (half m 9) (omega arith))
      ∙ sym (λ j. rules_ok m (ea j + 3) (c j) (es j))

-- ---- where each ruleset begins
