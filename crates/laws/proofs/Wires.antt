-- Laws of wires: what stands on one that was written, and on the others.
use mathlib.Core.Path.{◌≡◌, refl, sym, ap, ◌∙◌}
use mathlib.Core.Bool.{not, ◌||◌}
use mathlib.Core.List.{List, [], ◌∷◌, ◌++◌, append_assoc}
use Prim.Native.Nat.{ℕ, zero, suc, ◌+◌, ◌-◌, ◌*◌, ◌≤◌, ◌<◌}
use native.Mathlib.Decide.{dec_lt, ℕ_discrete}
use native.Mathlib.Omega.{arith}
use lib.Dec.{T, leb, eqb, leb→le, le→leb, T_not}
use lib.ListN.{length, get_or, take, drop, replicate, length-append, length-take, length-drop, length-replicate, get_or-append}
use lib.Seq.{get_or-take, get_or-drop, get_or_at, take_at, drop_at, get_or-append-add, length-take-le, ext_get_or}
use Rattle.hume.specs.Tests.{all}
use Rattle.hume.specs.Image.{Program}
use Rattle.hume.specs.Values.{first, row, one_value, wire_count, wire_words, is_empty, set_wire, wire_ok}
use Rattle.laws.specs.Accepted.{WiresFit, Words32}
use Rattle.laws.specs.Sizes.{narrow}
use Rattle.laws.proofs.Tests.{and_left, and_right, and_both, OneOf, one, other, or_cases, or_right, eqb_of}
use Rattle.laws.proofs.Values.{one_value_lem}
use Rattle.laws.proofs.Small.{words_narrow}
use Rattle.laws.proofs.Each.{words_cons, words_append, words_take, words_drop, words_zeros}

all_zeros : (n : ℕ) → T (all (λ x. eqb x 0) (replicate n 0))
unfolding all
all_zeros zero = tt
all_zeros (suc n) = all_zeros n

part_same : (a b : List ℕ) (k c : ℕ) → length a ≡ length b → ((m : ℕ) → m < c → get_or a (k + m) 0 ≡ get_or b (k + m) 0)
    → take c (drop k a) ≡ take c (drop k b)
part_same a b k c l each =
    let x = length-take c (drop k a) in
    let y = length-take c (drop k b) in
    let u = length-drop k a in
    let v = length-drop k b in
    ext_get_or 0 (take c (drop k a)) (take c (drop k b)) (omega arith)
    (λ m h. let q : m < c = omega arith in
    get_or-take c (drop k a) m 0 q ∙ get_or-drop k a m 0 ∙ each m q
    ∙ sym (get_or-drop k b m 0) ∙ sym (get_or-take c (drop k b) m 0 q))

-- ---- the wire that was written

module _ (w : List ℕ) (n i : ℕ) (long : length w ≡ 65 * n) (inside : i < n) (ws : List ℕ) (short : length ws ≤ 64) where
  zeros : List ℕ
  zeros = replicate (64 - length ws) 0

  length_zeros : length zeros ≡ 64 - length ws
  unfolding zeros
  length_zeros = length-replicate (64 - length ws) 0

  front : length (take (65 * i) w) ≡ 65 * i
  front = length-take-le (65 * i) w (omega arith)

  -- the wires as they were up to the wire i, and what follows
  at_count : set_wire w i ws ≡ take (65 * i) w ++ length ws ∷ (ws ++ (zeros ++ drop (65 * i + 65) w))
  unfolding set_wire zeros
  at_count = simp append_assoc

  at_words : set_wire w i ws ≡ take (65 * i) w ++ length ws ∷ [] ++ (ws ++ (zeros ++ drop (65 * i + 65) w))
  unfolding set_wire zeros
  at_words = simp append_assoc

  at_zeros : set_wire w i ws ≡ take (65 * i) w ++ length ws ∷ ws ++ (zeros ++ drop (65 * i + 65) w)
  unfolding set_wire zeros
  at_zeros = simp append_assoc

  at_end : set_wire w i ws ≡ take (65 * i) w ++ length ws ∷ (ws ++ zeros) ++ drop (65 * i + 65) w
  unfolding set_wire zeros
  at_end = simp append_assoc

  -- The buffer keeps its length.
  pub set_wire_length : length (set_wire w i ws) ≡ length w
  set_wire_length =
      let a = length-append (take (65 * i) w) (length ws ∷ (ws ++ (zeros ++ drop (65 * i + 65) w))) in
      let b = length-append ws (zeros ++ drop (65 * i + 65) w) in
      let c = length-append zeros (drop (65 * i + 65) w) in
      let e = length-drop (65 * i + 65) w in
      let z = length_zeros in
      let f = front in
      rw at_count (omega arith)

  -- The count is that of the words written.
  pub set_wire_count : wire_count (set_wire w i ws) i ≡ length ws
  unfolding wire_count
  set_wire_count =
      rw at_count (get_or_at (take (65 * i) w) (length ws) (ws ++ (zeros ++ drop (65 * i + 65) w)) 0 (65 * i) front)

  -- The words are those written.
  pub set_wire_words : wire_words (set_wire w i ws) i ≡ ws
  unfolding wire_words
  set_wire_words =
      let before = take (65 * i) w ++ length ws ∷ [] in
      let f = front in
      let l : length before ≡ 65 * i + 1 = length-append (take (65 * i) w) (length ws ∷ []) ∙ omega arith in
      ap (λ (c : ℕ). take c (drop (65 * i + 1) (set_wire w i ws))) set_wire_count
      ∙ ap (λ (z : List ℕ). take (length ws) z)
      (ap (λ (z : List ℕ). drop (65 * i + 1) z) at_words
      ∙ drop_at before (ws ++ (zeros ++ drop (65 * i + 65) w)) (65 * i + 1) l)
      ∙ take_at ws (zeros ++ drop (65 * i + 65) w) (length ws) refl

  padding : take (64 - length ws) (drop (65 * i + 1 + length ws) (set_wire w i ws)) ≡ zeros
  padding =
      let before = take (65 * i) w ++ length ws ∷ ws in
      let f = front in
      let l : length before ≡ 65 * i + 1 + length ws = length-append (take (65 * i) w) (length ws ∷ ws) ∙ omega arith in
      ap (λ (z : List ℕ). take (64 - length ws) z)
      (ap (λ (z : List ℕ). drop (65 * i + 1 + length ws) z) at_zeros
      ∙ drop_at before (zeros ++ drop (65 * i + 65) w) (65 * i + 1 + length ws) l)
      ∙ take_at zeros (drop (65 * i + 65) w) (64 - length ws) length_zeros

  -- A wire with no words or with one value is a wire.
  pub set_wire_ok : T (eqb (length ws) 0 || one_value ws) → T (wire_ok (set_wire w i ws) i)
  unfolding wire_ok zeros
  set_wire_ok t =
      rw (set_wire_count, set_wire_words, padding)
      (and_both (leb (length ws) 64) _ (le→leb (length ws) 64 short)
      (and_both (all (λ x. eqb x 0) zeros) _ (all_zeros (64 - length ws)) t))

  -- ---- the others

  earlier : (k : ℕ) → k < 65 * i → get_or (set_wire w i ws) k 0 ≡ get_or w k 0
  earlier k h =
      let f = front in
      ap (λ (z : List ℕ). get_or z k 0) at_count
      ∙ get_or-append (take (65 * i) w) (length ws ∷ (ws ++ (zeros ++ drop (65 * i + 65) w))) 0 k (omega arith)
      ∙ get_or-take (65 * i) w k 0 h

  later : (k : ℕ) → 65 * i + 65 ≤ k → get_or (set_wire w i ws) k 0 ≡ get_or w k 0
  later k h =
      let before = take (65 * i) w ++ length ws ∷ (ws ++ zeros) in
      let f = front in
      let z = length_zeros in
      let a = length-append (take (65 * i) w) (length ws ∷ (ws ++ zeros)) in
      let b = length-append ws zeros in
      let l : length before ≡ 65 * i + 65 = omega arith in
      let m = k - (65 * i + 65) in
      let e : k ≡ 65 * i + 65 + m = omega arith in
      let c : k ≡ length before + m = omega arith in
      ap (λ (z : List ℕ). get_or z k 0) at_end
      ∙ ap (λ (j : ℕ). get_or (before ++ drop (65 * i + 65) w) j 0) c
      ∙ get_or-append-add before (drop (65 * i + 65) w) m 0
      ∙ get_or-drop (65 * i + 65) w m 0
      ∙ ap (λ (j : ℕ). get_or w j 0) (sym e)

  elsewhere : (j m : ℕ) → (j ≡ i → ⊥) → m < 65 → get_or (set_wire w i ws) (65 * j + m) 0 ≡ get_or w (65 * j + m) 0
  elsewhere j m x h = by (dec_lt j i)
    where
      by : Dec (j < i) → get_or (set_wire w i ws) (65 * j + m) 0 ≡ get_or w (65 * j + m) 0
      by (yes l) = earlier (65 * j + m) (omega arith)
      by (no l) = later (65 * j + m) (let y : i < j = omega arith in omega arith)

  module _ (j : ℕ) (apart : j ≡ i → ⊥) where
    -- Another wire keeps its count,
    pub set_wire_count_other : wire_count (set_wire w i ws) j ≡ wire_count w j
    unfolding wire_count
    set_wire_count_other = let e : 65 * j ≡ 65 * j + 0 = omega arith in rw e (elsewhere j 0 apart (omega arith))

    part_other : (m c : ℕ) → m + c ≤ 65 → take c (drop (65 * j + m) (set_wire w i ws)) ≡ take c (drop (65 * j + m) w)
    part_other m c h =
        part_same (set_wire w i ws) w (65 * j + m) c set_wire_length
        (λ k l. let e : 65 * j + m + k ≡ 65 * j + (m + k) = omega arith in
        rw e (elsewhere j (m + k) apart (omega arith)))

    -- and its words,
    pub set_wire_words_other : wire_count w j ≤ 64 → wire_words (set_wire w i ws) j ≡ wire_words w j
    unfolding wire_words
    set_wire_words_other h = rw set_wire_count_other (part_other 1 (wire_count w j) (omega arith))

    -- and stays a wire.
    pub set_wire_ok_other : T (wire_ok w j) → T (wire_ok (set_wire w i ws) j)
    unfolding wire_ok
    set_wire_ok_other t =
        let c = wire_count w j in
        let h = leb→le c 64 (and_left (leb c 64) _ t) in
        let e : 65 * j + 1 + c ≡ 65 * j + (1 + c) = omega arith in
        let pad : take (64 - c) (drop (65 * j + 1 + c) (set_wire w i ws)) ≡ take (64 - c) (drop (65 * j + 1 + c) w) =
        rw e (part_other (1 + c) (64 - c) (omega arith)) in
        rw (set_wire_count_other, set_wire_words_other h, pad) t

-- ---- what a wire holds

-- A wire that is not empty: 1 to 64 words, which are one value.
pub record FullWire (w : List ℕ) (i : ℕ) : Type 0 where
  pub least : 1 ≤ wire_count w i
  pub most : wire_count w i ≤ 64
  pub long : length (wire_words w i) ≡ wire_count w i
  pub one : T (one_value (wire_words w i))

-- a wire, by whether it is empty
pub data Wire (w : List ℕ) (i : ℕ) : Type 0 where
  empty : T (is_empty w i) → Wire w i
  full : FullWire w i → Wire w i

-- A wire is empty or holds one value.
pub wire_holds : (w : List ℕ) (n i : ℕ) → length w ≡ 65 * n → i < n → T (wire_ok w i) → Wire w i
unfolding wire_ok wire_words is_empty
wire_holds w n i long inside t =
    let c = wire_count w i in
    let zeros = all (λ x. eqb x 0) (take (64 - c) (drop (65 * i + 1 + c) w)) in
    by (leb→le c 64 (and_left (leb c 64) _ t)) (ℕ_discrete c 0)
    (or_cases (eqb c 0) _ (and_right zeros _ (and_right (leb c 64) _ t)))
  where
    by : wire_count w i ≤ 64 → Dec (wire_count w i ≡ 0) → OneOf (eqb (wire_count w i) 0) (one_value (wire_words w i))
        → Wire w i
    by h (yes e) o = empty (eqb_of (wire_count w i) 0 e)
    by h (no e) (one z) = empty z
    by h (no e) (other v) =
        let d = length-drop (65 * i + 1) w in
        full (record {
          least = omega arith;
          most = h;
          long = length-take-le (wire_count w i) (drop (65 * i + 1) w) (omega arith);
          one = v;
        })

-- One that is not empty holds one value.
pub wire_full : (w : List ℕ) (n i : ℕ) → length w ≡ 65 * n → i < n → T (wire_ok w i) → T (not (is_empty w i))
    → FullWire w i
wire_full w n i long inside t k = by (wire_holds w n i long inside t)
  where
    by : Wire w i → FullWire w i
    by (empty e) = absurd (T_not (is_empty w i) k e)
    by (full f) = f

-- ---- the whole buffer

-- Words with one value, or none, may be written on any wire.
pub wire_set : (P : Program) (w : List ℕ) (i : ℕ) (ws : List ℕ) → WiresFit P w → i < P.inputs + P.outputs
    → length ws ≤ 64 → T (eqb (length ws) 0 || one_value ws) → WiresFit P (set_wire w i ws)
wire_set P w i ws fit h short t =
    let n = P.inputs + P.outputs in
    let long = fit.long in
    record {
      long = set_wire_length w n i long h ws short ∙ long;
      each = λ j l. by j (ℕ_discrete j i) (fit.each j l);
    }
  where
    by : (j : ℕ) → Dec (j ≡ i) → T (wire_ok w j) → T (wire_ok (set_wire w i ws) j)
    by j (yes e) o = rw e (set_wire_ok w (P.inputs + P.outputs) i fit.long h ws short t)
    by j (no e) o = set_wire_ok_other w (P.inputs + P.outputs) i fit.long h ws short j e o

-- Any wire may be emptied.
pub wire_clear : (P : Program) (w : List ℕ) (i : ℕ) → WiresFit P w → i < P.inputs + P.outputs
    → WiresFit P (set_wire w i [])
wire_clear P w i fit h = wire_set P w i [] fit h (omega arith) tt

-- One value of 64 words at most may be written on any wire.
pub wire_put : (P : Program) (w : List ℕ) (i : ℕ) (ws : List ℕ) → WiresFit P w → i < P.inputs + P.outputs
    → length ws ≤ 64 → T (one_value ws) → WiresFit P (set_wire w i ws)
wire_put P w i ws fit h short t = wire_set P w i ws fit h short (or_right (eqb (length ws) 0) _ t)

-- ---- words of 32 bits

-- A wire's words are of 32 bits where the buffer's are.
pub words_wire : (w : List ℕ) (i : ℕ) → Words32 w → Words32 (wire_words w i)
unfolding wire_words
words_wire w i s = words_take (wire_count w i) (drop (65 * i + 1) w) (words_drop (65 * i + 1) w s)

-- Words of 32 bits on a wire leave the buffer's words of 32 bits.
pub words_set_wire : (w : List ℕ) (i : ℕ) (ws : List ℕ) → length ws ≤ 64 → Words32 w → Words32 ws
    → Words32 (set_wire w i ws)
unfolding set_wire
words_set_wire w i ws h s t =
    let zeros : List ℕ = replicate (64 - length ws) 0 in
    words_append (take (65 * i) w ++ length ws ∷ (ws ++ zeros)) (drop (65 * i + 65) w)
    (words_append (take (65 * i) w) (length ws ∷ (ws ++ zeros)) (words_take (65 * i) w s)
    (words_cons (length ws) (ws ++ zeros) (omega arith) (words_append ws zeros t (words_zeros (64 - length ws)))))
    (words_drop (65 * i + 65) w s)

-- The value on a wire has payloads of 32 bits.
pub wire_narrow : (w : List ℕ) (i : ℕ) → Words32 w → FullWire w i → T (narrow (first (row (wire_words w i))))
wire_narrow w i s f =
    let v = one_value_lem (wire_words w i) f.one in
    rw v.reads (words_narrow v.value (rw v.is at (words_wire w i s)))
