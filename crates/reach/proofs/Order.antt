-- Moving a rule of a rule order to the end of its ruleset keeps it an order.
use mathlib.Core.Path.{◌≡◌, refl, sym, ap, ◌∙◌, subst}
use mathlib.Core.List.{List, ◌∷◌, ◌++◌}
use Prim.Native.Nat.{ℕ, suc, ◌+◌, ◌-◌, ◌≤◌, ◌<◌}
use native.Mathlib.Decide.{dec_le, ℕ_discrete}
use native.Mathlib.Omega.{arith}
use lib.Dec.{T, eqb, eqb→eq}
use lib.ListN.{length, get_or, take, drop, length-append, length-drop, get_or-append}
use lib.Seq.{get_or-append-add, get_or_at, get_or-take, get_or-drop, length-take-le}
use Rattle.hume.specs.Image.{Program, order_at}
use Rattle.hume.specs.Refusals.{among, permutation, order_of}
use Rattle.hume.specs.Instructions.{move_last}
use Rattle.laws.specs.Accepted.{OrderFits}
use Rattle.laws.proofs.Tests.{and_left, and_right, and_both, every_at, every_of, eqb_of}
use Rattle.laws.proofs.Permutation.{among_at, among_where}
use Rattle.laws.proofs.Orders.{order_stretches, stretch_at, order_room}

-- a place that is left, or moved between i and j
data Near (i j p q : ℕ) : Type 0 where
  stays : q ≡ p → Near i j p q
  within : i ≤ p → p < j → i ≤ q → q < j → Near i j p q

module _ (l : List ℕ) (i j : ℕ) (h : i < j) (k : j ≤ length l) where
  -- what stands behind the first i words
  behind : List ℕ
  behind = take (j - (i + 1)) (drop (i + 1) l) ++ get_or l i 0 ∷ drop j l

  front_length : length (take i l) ≡ i
  front_length = length-take-le i l (omega arith)

  middle_length : length (take (j - (i + 1)) (drop (i + 1) l)) ≡ j - (i + 1)
  middle_length =
      let e : length (drop (i + 1) l) ≡ length l - (i + 1) = length-drop (i + 1) l in
      length-take-le (j - (i + 1)) (drop (i + 1) l) (omega arith)

  move_length : length (move_last l i j) ≡ length l
  unfolding move_last behind
  move_length =
      let a : length (take i l ++ behind) ≡ length (take i l) + length behind = length-append (take i l) behind in
      let m = take (j - (i + 1)) (drop (i + 1) l) in
      let b : length behind ≡ length m + suc (length (drop j l)) = length-append m (get_or l i 0 ∷ drop j l) in
      let c : length (drop j l) ≡ length l - j = length-drop j l in
      let d : length (take i l) ≡ i = front_length in
      let e : length m ≡ j - (i + 1) = middle_length in
      omega arith

  before : (p : ℕ) → p < i → get_or (move_last l i j) p 0 ≡ get_or l p 0
  unfolding move_last behind
  before p a =
      let d : length (take i l) ≡ i = front_length in
      get_or-append (take i l) behind 0 p (omega arith) ∙ get_or-take i l p 0 a

  from : (p : ℕ) → get_or (move_last l i j) (i + p) 0 ≡ get_or behind p 0
  unfolding move_last behind
  from p =
      ap (λ (x : ℕ). get_or (move_last l i j) (x + p) 0) (sym front_length) ∙ get_or-append-add (take i l) behind p 0

  middle : (p : ℕ) → p < j - (i + 1) → get_or behind p 0 ≡ get_or l (i + 1 + p) 0
  unfolding behind
  middle p a =
      let m = take (j - (i + 1)) (drop (i + 1) l) in
      let e : length m ≡ j - (i + 1) = middle_length in
      get_or-append m (get_or l i 0 ∷ drop j l) 0 p (omega arith)
      ∙ get_or-take (j - (i + 1)) (drop (i + 1) l) p 0 a
      ∙ get_or-drop (i + 1) l p 0

  last : get_or behind (j - (i + 1)) 0 ≡ get_or l i 0
  unfolding behind
  last =
      get_or_at (take (j - (i + 1)) (drop (i + 1) l)) (get_or l i 0) (drop j l) 0 (j - (i + 1)) middle_length

  beyond : (p : ℕ) → get_or behind (j - (i + 1) + suc p) 0 ≡ get_or l (j + p) 0
  unfolding behind
  beyond p =
      ap (λ (x : ℕ). get_or behind (x + suc p) 0) (sym middle_length)
      ∙ get_or-append-add (take (j - (i + 1)) (drop (i + 1) l)) (get_or l i 0 ∷ drop j l) (suc p) 0
      ∙ get_or-drop j l p 0

  -- where the word at p has gone
  moved_at : (p : ℕ) → (q : ℕ) × (get_or (move_last l i j) q 0 ≡ get_or l p 0) × Near i j p q
  moved_at p = by (dec_le (suc p) i) (ℕ_discrete p i) (dec_le j p)
    where
      by : Dec (suc p ≤ i) → Dec (p ≡ i) → Dec (j ≤ p)
          → (q : ℕ) × (get_or (move_last l i j) q 0 ≡ get_or l p 0) × Near i j p q
      by (yes a) b c = (p, before p a, stays refl)
      by (no a) (yes e) c = (
        i + (j - (i + 1)),
        from (j - (i + 1)) ∙ last ∙ ap (λ (x : ℕ). get_or l x 0) (sym e),
        within (omega arith) (omega arith) (omega arith) (omega arith),
      )
      by (no a) (no e) (yes c) =
          let u : p ≡ i + (j - (i + 1) + suc (p - j)) = omega arith in
          let v : j + (p - j) ≡ p = omega arith in (
            p,
            ap (λ (x : ℕ). get_or (move_last l i j) x 0) u ∙ from (j - (i + 1) + suc (p - j)) ∙ beyond (p - j)
                ∙ ap (λ (x : ℕ). get_or l x 0) v,
            stays refl,
          )
      by (no a) (no e) (no c) =
          let v : i + 1 + (p - (i + 1)) ≡ p = omega arith in (
            i + (p - (i + 1)),
            from (p - (i + 1)) ∙ middle (p - (i + 1)) (omega arith) ∙ ap (λ (x : ℕ). get_or l x 0) v,
            within (omega arith) (omega arith) (omega arith) (omega arith),
          )

-- A rule of a ruleset moved last among those of its ruleset: still an order.
pub order_moved : (P : Program) (order : List ℕ) → OrderFits P order → (rs rp : ℕ) → rs < P.rulesets → rp < P.count rs
    → OrderFits P (move_last order (order_at P rs + rp) (order_at P rs + P.count rs))
unfolding permutation order_of
order_moved P order f rs rp h k = record { long = len ∙ f.long; each = one_of }
  where
    i : ℕ
    i = order_at P rs + rp

    j : ℕ
    j = order_at P rs + P.count rs

    ends : order_at P rs + P.count rs ≤ length order
    ends = order_room f rs h

    new : List ℕ
    new = move_last order i j

    len : length new ≡ length order
    len = move_length order i j (omega arith) (omega (arith, ends))

    -- the stretch of r is as long as before
    stretch_length : (r : ℕ) → r < P.rulesets → length (order_of P new r) ≡ P.count r
    stretch_length r l =
        let a : order_at P r + P.count r ≤ length order = order_room f r l in
        let b : length (drop (order_at P r) new) ≡ length new - order_at P r = length-drop (order_at P r) new in
        let c : length new ≡ length order = len in
        length-take-le (P.count r) (drop (order_at P r) new) (omega arith)

    -- a place in the stretch of r, moved, is in that stretch
    inside : (r x q : ℕ) → x < P.count r → Near i j (order_at P r + x) q → Dec (r ≡ rs) → Dec (suc r ≤ rs)
        → (y : ℕ) × (y < P.count r) × (order_at P r + y ≡ q)
    inside r x q l (stays e) d m = (x, l, sym e)
    inside r x q l (within a b c e) (yes u) m =
        let v : order_at P r ≡ order_at P rs = ap (order_at P) u in
        let w : P.count r ≡ P.count rs = ap (λ (z : ℕ). P.count z) u in
        (q - order_at P r, omega arith, omega arith)
    inside r x q l (within a b c e) (no u) (yes m) =
        let v : order_at P r + P.count r ≤ order_at P rs = order_stretches P r rs m in
        absurd (omega arith)
    inside r x q l (within a b c e) (no u) (no m) =
        let v : order_at P rs + P.count rs ≤ order_at P r = order_stretches P rs r (omega arith) in
        absurd (omega arith)

    found : (r : ℕ) → r < P.rulesets → (x : ℕ) → T (among x (order_of P order r))
        → length (order_of P order r) ≡ P.count r → T (among x (order_of P new r))
    found r l x t e =
        let w = among_where x (order_of P order r) t in
        let wl : w.0 < length (order_of P order r) = w.1 in
        let wc : w.0 < P.count r = omega arith in
        let m = moved_at order i j (omega arith) (omega (arith, ends)) (order_at P r + w.0) in
        let y = inside r w.0 m.0 wc m.2 (ℕ_discrete r rs) (dec_le (suc r) rs) in
        let sl : length (order_of P new r) ≡ P.count r = stretch_length r l in
        let yl : y.0 < P.count r = y.1 in
        let at : get_or (order_of P new r) y.0 0 ≡ x =
        stretch_at P new r y.0 yl
        ∙ ap (λ (z : ℕ). get_or new z 0) y.2
        ∙ m.1
        ∙ sym (stretch_at P order r w.0 wc)
        ∙ w.2 in
        subst (λ (z : ℕ). T (among z (order_of P new r))) at (among_at (order_of P new r) y.0 (omega arith))

    one_of : (r : ℕ) → r < P.rulesets → T (permutation (P.count r) (order_of P new r))
    one_of r l =
        let t = f.each r l in
        let b = eqb (length (order_of P order r)) (P.count r) in
        let e : length (order_of P order r) ≡ P.count r = eqb→eq _ _ (and_left b _ t) in
        let all = every_at (P.count r) (λ x. among x (order_of P order r)) (and_right b _ t) in
        and_both (eqb (length (order_of P new r)) (P.count r)) _ (eqb_of _ _ (stretch_length r l))
        (every_of (P.count r) (λ x. among x (order_of P new r)) (λ x u. found r l x (all x u) e))
