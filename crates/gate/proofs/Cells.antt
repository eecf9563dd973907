-- Laws of the wire's checkers: which value stands at a place, by its first two words, and where it ends.
use mathlib.Core.Path.{◌≡◌, refl, sym, ap, ◌∙◌, subst}
use mathlib.Core.Bool.{Bool, true, false, not, ◌&&◌, ◌||◌}
use mathlib.Core.List.{List, [], ◌∷◌, ◌++◌, append_assoc, append-nil}
use Prim.Native.Nat.{ℕ, zero, suc, ◌+◌, ◌-◌, ◌*◌, ◌≤◌, ◌<◌}
use native.Mathlib.Nat.{suc-add}
use native.Mathlib.Numerals.{add-one}
use native.Mathlib.Omega.{arith}
use borrow.Author.Tests.{eq-eqb, not-false, ne_eqb, le-leb, lt-leb}
use lib.Dec.{T, eqb, eqb→eq}
use lib.ListN.{length, get_or, take, drop, length-append}
use lib.Seq.{drop-drop, drop-append_seam, drop-cons, drop-length}
use Rattle.std.specs.Prelude.{Option, Some, None, slice_get}
use Rattle.std.specs.Option.{option_copied, option_eq}
use denote.Bor.{Bor}
use Rattle.hume.specs.Tests.{all}
use Rattle.hume.specs.Words.{none_header, tuple_header}
use Rattle.hume.specs.Values.{Value, nothing, atom, block, Values, end, more, count, atom_ok, block_ok, good, goods, prefix, prefixes, is_nothing, one_value, wire_count, wire_words, wire_ok}
use Rattle.laws.proofs.Tests.{of_true, and_left, and_right, and_both, to_false, eqb_of}
use Rattle.laws.proofs.Values.{atom_header, BlockHeader, block_header, one_value_lem, value_one}
use Rattle.gate.specs.Cells.{Cell, Fields, CellEnds, FieldsEnd}
use Rattle.gate.proofs.Tests.{both_ways, and_yes, and_no}

-- ---- words from a place on

-- the word a stands at i, and then ws
record Opens (s : List ℕ) (i a : ℕ) (ws : List ℕ) : Type 0 where
  inside : i < length s
  is : get_or s i 0 ≡ a
  then : drop (i + 1) s ≡ ws

opens : (s : List ℕ) (i a : ℕ) (ws : List ℕ) → drop i s ≡ a ∷ ws → Opens s i a ws
opens [] zero a ws e = absurd (let z : ◌≡◌ {A = ℕ} 0 1 = cc in omega arith)
opens [] (suc i) a ws e = absurd (let z : ◌≡◌ {A = ℕ} 0 1 = cc in omega arith)
opens (x ∷ s) zero a ws e = record { inside = omega arith; is = cc; then = cc }
opens (x ∷ s) (suc i) a ws e =
    let o = opens s i a ws e in
    record { inside = omega (arith, o.inside); is = o.is; then = rw suc-add o.then }

-- the words a and b stand at i, and then ws
record Pair (s : List ℕ) (i a b : ℕ) (ws : List ℕ) : Type 0 where
  inside : i + 1 < length s
  first : get_or s i 0 ≡ a
  second : get_or s (i + 1) 0 ≡ b
  then : drop (i + 2) s ≡ ws

pair : (s : List ℕ) (i a b : ℕ) (ws : List ℕ) → drop i s ≡ a ∷ b ∷ ws → Pair s i a b ws
pair s i a b ws e =
    let o = opens s i a (b ∷ ws) e in
    let t = opens s (i + 1) b ws o.then in
    let two : i + 2 ≡ i + 1 + 1 = omega arith in
    record { inside = t.inside; first = o.is; second = t.is; then = rw two t.then }

one_word : (s : List ℕ) (i : ℕ) → i < length s → drop i s ≡ get_or s i 0 ∷ drop (i + 1) s
one_word s i h = rw add-one (drop-cons s i 0 h)

two_words : (s : List ℕ) (i : ℕ) → i + 1 < length s → drop i s ≡ get_or s i 0 ∷ get_or s (i + 1) 0 ∷ drop (i + 2) s
two_words s i h =
    let two : i + 2 ≡ i + 1 + 1 = omega arith in
    rw two (one_word s i (omega arith) ∙ ap (λ (l : List ℕ). get_or s i 0 ∷ l) (one_word s (i + 1) h))

beyond : (s : List ℕ) (i : ℕ) (us ws : List ℕ) → drop i s ≡ us ++ ws → drop (i + length us) s ≡ ws
beyond s i us ws e =
    sym (drop-drop (length us) i s) ∙ ap (λ (l : List ℕ). drop (length us) l) e ∙ drop-append_seam us ws

prefix_some : (v : Value) → 0 < length (prefix v)
unfolding prefix
prefix_some nothing = omega arith
prefix_some (atom h x) = omega arith
prefix_some (block h vs) = omega arith

-- ---- what a good value has at its front

module _ (s : List ℕ) (i : ℕ) where
  abbrev h : ℕ
  h = get_or s i 0

  abbrev x : ℕ
  x = get_or s (i + 1) 0

  -- by the kind of the value: None's header; or a header, a payload or size, and what makes them right
  data Front : Value → List ℕ → Type 0 where
    none_front : (ws : List ℕ) → i < length s → h ≡ none_header → Front nothing ws
    atom_front : (a b : ℕ) (ws : List ℕ) → i + 1 < length s → h < tuple_header → T (atom_ok h x) → Front (atom a b) ws
    block_front : (a : ℕ) (vs : Values) (ws : List ℕ) → i + 1 < length s → BlockHeader h x → T (block_ok h x)
        → x ≡ count vs → T (goods vs) → drop (i + 2) s ≡ prefixes vs ++ ws → Front (block a vs) ws

  front_of : (v : Value) (ws : List ℕ) → T (good v) → drop i s ≡ prefix v ++ ws → Front v ws
  unfolding prefix good
  front_of nothing ws g e = let o = opens s i none_header ws e in none_front ws o.inside o.is
  front_of (atom a b) ws g e =
      let p = pair s i a b ws e in
      let t : T (atom_ok h x) = rw (p.first, p.second) g in
      atom_front a b ws p.inside (atom_header h x t) t
  front_of (block a vs) ws g e =
      let p = pair s i a (count vs) (prefixes vs ++ ws) e in
      let t : T (block_ok h x) = rw (p.first, p.second) (and_left (block_ok a (count vs)) _ g) in
      block_front a vs ws p.inside (block_header h x t) t p.second (and_right (block_ok a (count vs)) _ g)
      p.then

  -- ---- a cell, by the tests of its words

  -- one that was found, and none
  ends_at : (e : ℕ) → Cell s i e → ((v : Value) (ws : List ℕ) → Front v ws → e ≡ i + length (prefix v))
      → CellEnds s i (Some e)
  ends_at e found by =
      record {
        sound = λ n q. let same : e ≡ n = cc in subst (λ (k : ℕ). Cell s i k) same found;
        complete = λ v ws g d. ap (λ (k : ℕ). Some k) (by v ws (front_of v ws g d));
      }

  ends_nowhere : ((v : Value) (ws : List ℕ) → Front v ws → ⊥) → CellEnds s i None
  ends_nowhere never =
      record { sound = λ n q. absurd (cc); complete = λ v ws g d. absurd (never v ws (front_of v ws g d)) }

  pub past_end : length s ≤ i → CellEnds s i None
  past_end l = ends_nowhere never
    where
      never : (v : Value) (ws : List ℕ) → Front v ws → ⊥
      never v ws (none_front _ k q) = omega arith
      never v ws (atom_front a b _ k q t) = omega arith
      never v ws (block_front a vs _ k q t m g d) = omega arith

  pub a_none : i < length s → h ≡ none_header → CellEnds s i (Some (i + 1))
  unfolding prefix good
  a_none l z = ends_at (i + 1) found by
    where
      found : Cell s i (i + 1)
      found = record { value = nothing; right = tt; long = refl; within = omega arith; here = rw z at (one_word s i l) }

      by : (v : Value) (ws : List ℕ) → Front v ws → i + 1 ≡ i + length (prefix v)
      by v ws (none_front _ k q) = refl
      by v ws (atom_front a b _ k q t) = absurd (omega arith)
      by v ws (block_front a vs _ k q t m g d) = absurd (omega (arith, q))

  module _ (z : h ≡ none_header → ⊥) where
    pub cut_short : length s ≤ i + 1 → CellEnds s i None
    cut_short l = ends_nowhere never
      where
        never : (v : Value) (ws : List ℕ) → Front v ws → ⊥
        never v ws (none_front _ k q) = z q
        never v ws (atom_front a b _ k q t) = omega arith
        never v ws (block_front a vs _ k q t m g d) = omega arith

    pub an_atom : i + 1 < length s → T (atom_ok h x) → CellEnds s i (Some (i + 2))
    unfolding prefix good
    an_atom l u = ends_at (i + 2) found by
      where
        found : Cell s i (i + 2)
        found = record { value = atom h x; right = u; long = refl; within = omega arith; here = two_words s i l }

        by : (v : Value) (ws : List ℕ) → Front v ws → i + 2 ≡ i + length (prefix v)
        by v ws (none_front _ k q) = absurd (z q)
        by v ws (atom_front a b _ k q t) = refl
        by v ws (block_front a vs _ k q t m g d) = absurd (omega (arith, q, atom_header h x u))

    pub a_block : i + 1 < length s → T (block_ok h x) → (e : Option ℕ) → FieldsEnd s (i + 2) x e → CellEnds s i e
    unfolding prefix good
    a_block l u e f = record { sound = λ n q. found n (f.sound n q); complete = λ v ws g d. by (front_of v ws g d) }
      where
        found : (n : ℕ) → Fields s (i + 2) x n → Cell s i n
        found n r =
            record {
              value = block h r.values;
              right = and_both (block_ok h (count r.values)) _ (rw r.many at u) r.right;
              long = omega (arith, r.long);
              within = r.within;
              here = two_words s i l ∙ rw (r.here, r.many) refl;
            }

        by : {v : Value} {ws : List ℕ} → Front v ws → e ≡ Some (i + length (prefix v))
        by (none_front ws k q) = absurd (z q)
        by (atom_front a b ws k q t) = absurd (omega (arith, q, block_header h x u))
        by (block_front a vs ws k q t m g d) = f.complete vs ws g m d ∙ ap (λ (k : ℕ). Some k) (omega arith)

    pub neither : (T (atom_ok h x) → ⊥) → (T (block_ok h x) → ⊥) → CellEnds s i None
    neither p r = ends_nowhere never
      where
        never : (v : Value) (ws : List ℕ) → Front v ws → ⊥
        never v ws (none_front _ k q) = z q
        never v ws (atom_front a b _ k q t) = p t
        never v ws (block_front a vs _ k q t m g d) = r t

-- ---- fields

module _ (s : List ℕ) (i n : ℕ) where
  pub no_field : n ≡ 0 → i ≤ length s → FieldsEnd s i n (Some i)
  unfolding prefixes goods
  no_field z l = record { sound = found; complete = by }
    where
      found : (k : ℕ) → Some i ≡ Some k → Fields s i n k
      found k q =
          let same : i ≡ k = cc in
          let here : Fields s i n i =
          record { values = end; many = z; right = tt; long = omega arith; within = l; here = refl } in
          subst (λ (j : ℕ). Fields s i n j) same here

      by : (vs : Values) (ws : List ℕ) → T (goods vs) → n ≡ count vs → drop i s ≡ prefixes vs ++ ws
          → Some i ≡ Some (i + length (prefixes vs))
      by end ws g m e = ap (λ (k : ℕ). Some k) (omega arith)
      by (more v vs) ws g m e = absurd (omega arith)

  pub bad_field : (n ≡ 0 → ⊥) → CellEnds s i None → FieldsEnd s i n None
  unfolding prefixes goods
  bad_field z c = record { sound = λ k q. absurd (cc); complete = by }
    where
      by : (vs : Values) (ws : List ℕ) → T (goods vs) → n ≡ count vs → drop i s ≡ prefixes vs ++ ws
          → None ≡ Some (i + length (prefixes vs))
      by end ws g m e = absurd (z m)
      by (more v vs) ws g m e =
          let a = e ∙ append_assoc (prefix v) (prefixes vs) ws in
          absurd (let end = c.complete v (prefixes vs ++ ws) (and_left (good v) _ g) a in cc)

  pub more_fields : (m next : ℕ) (e : Option ℕ) → n ≡ m + 1 → CellEnds s i (Some next) → FieldsEnd s next m e
      → FieldsEnd s i n e
  unfolding prefixes goods
  more_fields m next e z c f = record { sound = λ k q. found k (c.sound next refl) (f.sound k q); complete = by }
    where
      found : (k : ℕ) → Cell s i next → Fields s next m k → Fields s i n k
      found k a r =
          record {
            values = more a.value r.values;
            many = omega (arith, r.many);
            right = and_both (good a.value) _ a.right r.right;
            long = omega (arith, a.long, r.long, length-append (prefix a.value) (prefixes r.values));
            within = r.within;
            here = a.here ∙ ap (λ (l : List ℕ). prefix a.value ++ l) r.here
                ∙ sym (append_assoc (prefix a.value) (prefixes r.values) (drop k s));
          }

      by : (vs : Values) (ws : List ℕ) → T (goods vs) → n ≡ count vs → drop i s ≡ prefixes vs ++ ws
          → e ≡ Some (i + length (prefixes vs))
      by end ws g q d = absurd (omega arith)
      by (more v vs) ws g q d =
          let a = d ∙ append_assoc (prefix v) (prefixes vs) ws in
          let there = c.complete v (prefixes vs ++ ws) (and_left (good v) _ g) a in
          let to : next ≡ i + length (prefix v) = cc in
          let b : drop next s ≡ prefixes vs ++ ws = rw to (beyond s i (prefix v) (prefixes vs ++ ws) a) in
          f.complete vs ws (and_right (good v) _ g) (omega arith) b
          ∙ ap (λ (k : ℕ). Some k) (omega (arith, length-append (prefix v) (prefixes vs)))

-- A checker that found a cell has moved on, and not past the end: fewer words are left.
pub record Moved (s : List ℕ) (i next : ℕ) : Type 0 where
  pub on : i < next
  pub within : next ≤ length s

pub moved : (s : List ℕ) (i next : ℕ) → CellEnds s i (Some next) → Moved s i next
moved s i next c =
    let a = c.sound next refl in
    record { on = omega (arith, a.long, prefix_some a.value); within = a.within }

-- ---- one whole value

not_none : (s : List ℕ) (v : Value) (ws : List ℕ) → T (good v) → drop 0 s ≡ prefix v ++ ws
    → (get_or s 0 0 ≡ none_header → ⊥)
    → T (not (is_nothing v))
not_none s v ws g e z = by (front_of s 0 v ws g e)
  where
    by : {v : Value} {ws : List ℕ} → Front s 0 v ws → T (not (is_nothing v))
    by (none_front ws k q) = absurd (z q)
    by (atom_front a b ws k q t) = tt
    by (block_front a vs ws k q t m g d) = tt

is_none_lem : (s : List ℕ) (v : Value) (ws : List ℕ) → T (good v) → drop 0 s ≡ prefix v ++ ws → get_or s 0 0 ≡ none_header
    → T (not (is_nothing v)) → ⊥
is_none_lem s v ws g e z u = by (front_of s 0 v ws g e) u
  where
    by : {v : Value} {ws : List ℕ} → Front s 0 v ws → T (not (is_nothing v)) → ⊥
    by (none_front ws k q) t = t
    by (atom_front a b ws k q t) t' = omega arith
    by (block_front a vs ws k q t m g d) t' = omega (arith, q)

whole : (s : List ℕ) (v : Value) → s ≡ prefix v → drop 0 s ≡ prefix v ++ []
whole s v e = e ∙ sym (append-nil (prefix v))

pub only_none : (s : List ℕ) → get_or s 0 0 ≡ none_header → one_value s ≡ false
only_none s z =
    to_false (λ t.
    let o = one_value_lem s t in
    is_none_lem s o.value [] o.good (whole s o.value o.is) z o.some)

-- what the test of the first word, behind a reference, has found
pub first_other : (s : List ℕ) (f : Option (Bor ℕ)) (w : Bor ℕ) → option_copied f ≡ slice_get s 0
    → not (option_eq (λ (x y : Bor ℕ). eqb x.now y.now) f (Some w)) ≡ true → w.now ≡ none_header
    → get_or s 0 0 ≡ none_header → ⊥
first_other [] f w e t n z = omega arith
first_other (y ∷ s) None w e t n z = absurd (cc)
first_other (y ∷ s) (Some x) w e t n z =
    let same : x.now ≡ y = cc in
    let hit : eqb x.now w.now ≡ true = eq-eqb x.now w.now (same ∙ z ∙ sym n) in
    let q : not true ≡ true = sym (ap not hit) ∙ t in
    absurd (cc)

pub first_same : (s : List ℕ) (f : Option (Bor ℕ)) (w : Bor ℕ) → option_copied f ≡ slice_get s 0
    → not (option_eq (λ (x y : Bor ℕ). eqb x.now y.now) f (Some w)) ≡ false → get_or s 0 0 ≡ w.now
first_same s None w e t = absurd (cc)
first_same [] (Some x) w e t = absurd (cc)
first_same (y ∷ s) (Some x) w e t =
    let same : x.now ≡ y = cc in
    sym same ∙ eqb→eq x.now w.now (of_true (not-false _ t))

same_end : (e : Option ℕ) (n : ℕ) → T (option_eq eqb e (Some n)) → e ≡ Some n
same_end None n t = absurd t
same_end (Some k) n t = ap (λ (j : ℕ). Some j) (eqb→eq k n t)

end_same : (e : Option ℕ) (n : ℕ) → e ≡ Some n → T (option_eq eqb e (Some n))
end_same None n q = absurd (cc)
end_same (Some k) n q = eqb_of k n cc

pub value_ends : (s : List ℕ) (e : Option ℕ) → (get_or s 0 0 ≡ none_header → ⊥) → CellEnds s 0 e
    → option_eq eqb e (Some (length s)) ≡ one_value s
value_ends s e z c = both_ways _ (one_value s) (λ t. to (same_end e (length s) t)) (λ t. end_same e (length s) (from t))
  where
    to : e ≡ Some (length s) → T (one_value s)
    to k =
        let a = c.sound (length s) k in
        let is : s ≡ prefix a.value =
        a.here ∙ ap (λ (l : List ℕ). prefix a.value ++ l) (drop-length s) ∙ append-nil (prefix a.value) in
        subst (λ (l : List ℕ). T (one_value l)) (sym is)
        (value_one a.value a.right (not_none s a.value (drop (length s) s) a.right a.here z))

    from : T (one_value s) → e ≡ Some (length s)
    from t =
        let o = one_value_lem s t in
        c.complete o.value [] o.good (whole s o.value o.is)
        ∙ ap (λ (k : ℕ). Some k) (omega (arith, ap (λ (l : List ℕ). length l) o.is))

-- ---- one wire

module _ (w : List ℕ) (i k : ℕ) (e : k ≡ get_or w (65 * i) 0) where
  pub wire_long : 64 < k → wire_ok w i ≡ false
  unfolding wire_ok wire_count
  wire_long h = and_no _ _ (lt-leb (get_or w (65 * i) 0) 64 (omega arith))

  module _ (h : k ≤ 64) where
    wire_is : wire_ok w i
        ≡ (all (λ x. eqb x 0) (take (65 * i + 65 - (65 * i + 1 + k)) (drop (65 * i + 1 + k) w))
        && (eqb k 0 || one_value (take (65 * i + 1 + k - (65 * i + 1)) (drop (65 * i + 1) w))))
    unfolding wire_ok wire_words wire_count
    wire_is =
        let a : 65 * i + 65 - (65 * i + 1 + k) ≡ 64 - k = omega arith in
        let b : 65 * i + 1 + k - (65 * i + 1) ≡ k = omega arith in
        and_yes _ _ (le-leb (get_or w (65 * i) 0) 64 (omega arith)) ∙ rw (a, b, e) refl

    pub wire_dirty : all (λ x. eqb x 0) (take (65 * i + 65 - (65 * i + 1 + k)) (drop (65 * i + 1 + k) w)) ≡ false
        → wire_ok w i ≡ false
    wire_dirty n = wire_is ∙ and_no _ _ n

    module _ (y : all (λ x. eqb x 0) (take (65 * i + 65 - (65 * i + 1 + k)) (drop (65 * i + 1 + k) w)) ≡ true) where
      pub wire_empty : k ≡ 0 → wire_ok w i ≡ true
      wire_empty z =
          wire_is ∙ and_yes _ _ y
          ∙ ap (λ (t : Bool). t || one_value (take (65 * i + 1 + k - (65 * i + 1)) (drop (65 * i + 1) w))) (eq-eqb k 0 z)

      pub wire_value : (k ≡ 0 → ⊥) → wire_ok w i ≡ one_value (take (65 * i + 1 + k - (65 * i + 1)) (drop (65 * i + 1) w))
      wire_value z =
          wire_is ∙ and_yes _ _ y
          ∙ ap (λ (t : Bool). t || one_value (take (65 * i + 1 + k - (65 * i + 1)) (drop (65 * i + 1) w))) (ne_eqb k 0 z)
