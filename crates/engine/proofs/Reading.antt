-- Reading a value from the heap: what the bits of a word, of an object and of a list of fields spread out to.
use mathlib.Core.Path.{◌≡◌, refl, sym, ap, ◌∙◌}
use mathlib.Core.Bool.{Bool, true, false}
use mathlib.Core.List.{List, [], ◌∷◌, ◌++◌, append_assoc, append-nil}
use Prim.Native.Nat.{ℕ, zero, suc, ◌+◌, ◌-◌, ◌*◌, ◌^◌, ◌≤◌, ◌<◌}
use Rattle.std.specs.Prelude.{Option, Some, None}
use native.Mathlib.Omega.{arith}
use native.Mathlib.Nat.{not-suc-le-zero, le_of_suc-le-suc}
use native.Mathlib.Numerals.{add-one}
use borrow.Author.Tests.{lt-ltb, le-ltb}
use lib.Dec.{ltb}
use lib.ListN.{length, get_or, set, length-append}
use lib.Seq.{sets, ext_get_or}
use Rattle.hume.specs.Words.{Word, null, none, ref, raw, bits, is_ref, none_header, tuple_header}
use Rattle.hume.specs.Values.{fields_by, body_by, word_by, spread_to, spread}
use Rattle.laws.specs.Whole.{Whole, Field, Held, none_held, ref_held}
use Rattle.laws.proofs.Words.{none_is}
use Rattle.laws.proofs.Small.{raw_bits}
use Rattle.laws.proofs.Objects.{Block, whole_inside, whole_block, field_held, spread_none, spread_enough}
use Rattle.engine.specs.Copies.{Readable, spreads, Spread}
use Rattle.engine.specs.Turns.{Bears, Smalls}
use Rattle.engine.proofs.Laying.{sets_append}
use Rattle.engine.proofs.Outputs.{none_bits}

-- ---- the words that an area bears

-- are the only ones of their number
pub bears_one : {l : List ℕ} {us vs : List Word} → Bears l us → Bears l vs → Smalls us → Smalls vs → length us ≡ length vs
    → us ≡ vs
bears_one {l} {us} {vs} a b s t e =
    ext_get_or null us vs e
    (λ i h.
    let k : i < length vs = rw e at h in
    sym (raw_bits (get_or us i null) (s.each i))
    ∙ ap raw (sym (a.get i h) ∙ b.get i k)
    ∙ raw_bits (get_or vs i null) (t.each i))

-- inside a list the default does not matter
inside_same : (hs : List Word) (i : ℕ) → i < length hs → get_or hs i none ≡ get_or hs i null
inside_same [] i h = absurd (not-suc-le-zero h)
inside_same (w ∷ hs) zero h = refl
inside_same (w ∷ hs) (suc i) h = inside_same hs i (le_of_suc-le-suc h)

-- ---- how long it is at least

body_some : (b : Bool) (f : Word → List ℕ) (hs : List Word) (p : ℕ) → 1 ≤ length (body_by b f hs p)
unfolding body_by
body_some true f hs p = omega arith
body_some false f hs p = omega arith

word_some : (b : Bool) (f : Word → List ℕ) (hs : List Word) (p : ℕ) → 1 ≤ length (word_by b f hs p)
unfolding word_by
word_some true f hs p = omega arith
word_some false f hs p = omega arith

pub spread_some : (hs : List Word) (w : Word) → 1 ≤ length (spread hs w)
unfolding spread spread_to
spread_some hs w = word_some (is_ref w) (spread_to w.payload hs) hs w.payload

spread_two : (hs : List Word) (p : ℕ) → 2 ≤ length (spread hs (ref p))
unfolding spread spread_to is_ref word_by
spread_two hs p =
    let a = body_some (ltb (bits (get_or hs p none)) tuple_header) (spread_to p hs) hs p in
    omega arith

-- ---- fields spread out whole one level down

field_spread : {hs : List Word} {p : ℕ} {w : Word} → Field hs p w → spread_to p hs w ≡ spread hs w
unfolding spread
field_spread {hs} (Field.nothing p w e) = rw e (spread_none p hs ∙ sym (spread_none 1 hs))
field_spread {hs} (Field.lower p w q e l o) = rw e (spread_enough (ref_held q refl o) p l)

fields_spread : (hs : List Word) (p q n : ℕ) → q + n ≤ length hs → ((i : ℕ) → i < n → Field hs p (get_or hs (q + i) null))
    → fields_by (spread_to p hs) hs q n ≡ fields_by (spread hs) hs q n
unfolding fields_by
fields_spread hs p q zero l each = refl
fields_spread hs p q (suc n) l each =
    let z : q + 0 ≡ q = omega arith in
    let here : spread_to p hs (get_or hs q none) ≡ spread hs (get_or hs q none) =
    rw (inside_same hs q (omega arith)) (field_spread (rw z at (each 0 (omega arith)))) in
    let later = fields_spread hs p (suc q) n (omega arith)
    (λ i h. let s : suc q + i ≡ q + suc i = omega arith in rw s (each (suc i) (omega arith))) in
    rw (here, later) refl

-- ---- the fields of an object

-- The heap bears words that hold each of the n from the place q on.
pub record FieldsReadable (he : List ℕ) (q n : ℕ) : Type 0 where
  pub words : List Word
  pub bears : Bears he words
  pub smalls : Smalls words
  pub inside : q + n ≤ length words
  pub held : (i : ℕ) → i < n → Held words (get_or words (q + i) null)

-- what they spread out to
abbrev pub spreads_all : {he : List ℕ} {q n : ℕ} → FieldsReadable he q n → List ℕ
spreads_all {he} {q} {n} k = fields_by (spread k.words) k.words q n

-- ---- a word, by its bits

module _ {he : List ℕ} {x : ℕ} (k : Readable he x) where
  reads_none : x ≡ 2 ^ 29 → spreads k ≡ none_header ∷ []
  unfolding spread
  reads_none e =
      let z : k.word ≡ none = none_is k.word (none_bits k.word k.small (sym k.is ∙ e)) in
      rw z (spread_none 1 k.words)

  -- the object at the place p that a reference is to
  pub record Referred : Type 0 where
    pub least : 2 ^ 28 ≤ x
    pub word_is : k.word ≡ ref (x - 2 ^ 28)
    pub whole : Whole k.words (x - 2 ^ 28)
    pub inside : x - 2 ^ 28 + 2 ≤ length k.words

  pub reads_ref : (x ≡ 2 ^ 29 → ⊥) → Referred
  unfolding bits
  reads_ref n = by k.held
    where
      by : Held k.words k.word → Referred
      by (none_held e) = absurd (n (k.is ∙ ap bits e))
      by (ref_held p e o) =
          let b : x ≡ 1 * 2 ^ 28 + p = k.is ∙ ap bits e in
          let s : p ≡ x - 2 ^ 28 = omega arith in
          let w : Whole k.words (x - 2 ^ 28) = rw s at o in
          record { least = omega arith; word_is = e ∙ ap ref s; whole = w; inside = whole_inside w }

  reads_two : (x ≡ 2 ^ 29 → ⊥) → 2 ≤ length (spreads k)
  reads_two n = rw (reads_ref n).word_is (spread_two k.words (x - 2 ^ 28))

  pub reads_inside : (x ≡ 2 ^ 29 → ⊥) → x - 2 ^ 28 + 2 ≤ length he
  reads_inside n = let a = (reads_ref n).inside in let b = k.bears.room in omega arith

  module _ (n : x ≡ 2 ^ 29 → ⊥) where
    abbrev p : ℕ
    p = x - 2 ^ 28

    header_is : get_or he p 0 ≡ bits (get_or k.words p null)
    header_is = let a = (reads_ref n).inside in k.bears.get p (omega arith)

    second_is : get_or he (p + 1) 0 ≡ bits (get_or k.words (p + 1) null)
    second_is = let a = (reads_ref n).inside in k.bears.get (p + 1) (omega arith)

    header_same : bits (get_or k.words p none) ≡ get_or he p 0
    header_same =
        let a = (reads_ref n).inside in ap bits (inside_same k.words p (omega arith)) ∙ sym header_is

    second_same : bits (get_or k.words (p + 1) none) ≡ get_or he (p + 1) 0
    second_same =
        let a = (reads_ref n).inside in ap bits (inside_same k.words (p + 1) (omega arith)) ∙ sym second_is

    reads_atom : get_or he p 0 < tuple_header → spreads k ≡ get_or he p 0 ∷ get_or he (p + 1) 0 ∷ []
    unfolding spread spread_to is_ref word_by body_by
    reads_atom a =
        ap (λ (w : Word). spread k.words w) (reads_ref n).word_is
        ∙ rw (header_same, lt-ltb (get_or he p 0) tuple_header a, second_same) refl

    object : tuple_header ≤ get_or he p 0 → Block k.words p
    object a = whole_block (reads_ref n).whole (rw header_is at a)

    pub reads_fields : tuple_header ≤ get_or he p 0 → FieldsReadable he (p + 2) (get_or he (p + 1) 0)
    reads_fields a =
        let b = object a in
        record {
          words = k.words;
          bears = k.bears;
          smalls = k.smalls;
          inside = rw second_is b.inside;
          held = λ i h. field_held (b.field i (rw second_is at h));
        }

    reads_block : (a : tuple_header ≤ get_or he p 0)
        → spreads k ≡ get_or he p 0 ∷ get_or he (p + 1) 0 ∷ spreads_all (reads_fields a)
    unfolding spread spread_to is_ref word_by body_by reads_fields
    reads_block a =
        let b = object a in
        let fs : fields_by (spread_to p k.words) k.words (p + 2) (get_or he (p + 1) 0)
        ≡ fields_by (spread k.words) k.words (p + 2) (get_or he (p + 1) 0) =
        rw second_is (fields_spread k.words p (p + 2) (bits (get_or k.words (p + 1) null)) b.inside b.field) in
        ap (λ (w : Word). spread k.words w) (reads_ref n).word_is
        ∙ rw (header_same, le-ltb (get_or he p 0) tuple_header a, second_same, fs) refl

-- ---- a list of fields

fields_split : (f : Word → List ℕ) (hs : List Word) (q n m : ℕ) → q < length hs → n ≡ suc m
    → fields_by f hs q n ≡ f (get_or hs q null) ++ fields_by f hs (q + 1) m
unfolding fields_by
fields_split f hs q n m h e =
    ap (λ (x : ℕ). fields_by f hs q x) e
    ∙ ap (λ (w : Word). f w ++ fields_by f hs (suc q) m) (inside_same hs q h)
    ∙ ap (λ (x : ℕ). f (get_or hs q null) ++ fields_by f hs x m) (sym (add-one q))

module _ {he : List ℕ} {q n : ℕ} (k : FieldsReadable he q n) where
  reads_end : n ≡ 0 → spreads_all k ≡ []
  unfolding fields_by
  reads_end e = rw e refl

  pub fields_inside : q + n ≤ length he
  fields_inside = let a = k.inside in let b = k.bears.room in omega arith

  module _ (z : n ≡ 0 → ⊥) where
    pub reads_first : Readable he (get_or he q 0)
    reads_first =
        let a = k.inside in
        let e : q + 0 ≡ q = omega arith in
        record {
          words = k.words;
          word = get_or k.words q null;
          bears = k.bears;
          smalls = k.smalls;
          small = k.smalls.each q;
          held = rw e at (k.held 0 (omega (arith, z)));
          is = k.bears.get q (omega (arith, z));
        }

    reads_later : FieldsReadable he (q + 1) (n - 1)
    reads_later =
        let a = k.inside in
        record {
          words = k.words;
          bears = k.bears;
          smalls = k.smalls;
          inside = omega (arith, z);
          held = λ i h. let e : q + 1 + i ≡ q + (i + 1) = omega arith in rw e (k.held (i + 1) (omega arith));
        }

    reads_both : spreads_all k ≡ spreads reads_first ++ spreads_all reads_later
    unfolding reads_first reads_later
    reads_both =
        let a = k.inside in
        let e : n ≡ suc (n - 1) = omega (arith, z) in
        fields_split (spread k.words) k.words q n (n - 1) (omega (arith, z)) e

-- ---- the words, spread out

spread_all_lem : (ws : List ℕ) (at end : ℕ) (w : List ℕ) → at + length ws ≤ end → Spread ws at end w (Some (at + length ws)) (sets w at ws)
spread_all_lem ws at end w h = record { written = ws; inside = h; next_is = (refl, h); whole = λ z. refl; wires_is = refl }

-- there is no room for the last of them
spread_part : (ws done : List ℕ) (at end : ℕ) (w : List ℕ) → at + length done ≤ end → end < at + length ws
    → Spread ws at end w None (sets w at done)
spread_part ws done at end w i h =
    record { written = done; inside = i; next_is = h; whole = λ z. absurd (omega arith); wires_is = refl }

-- the index after them is not below `at`
module _ {ws : List ℕ} {at end : ℕ} {w : List ℕ} {o : Option ℕ} {r : ℕ} {w' : List ℕ} (s : Spread ws at end w o w') (e : o ≡ Some r) where
  pub spread_ends : (r ≡ at + length ws) × (r ≤ end)
  spread_ends = rw e at s.next_is

  pub spread_least : at ≤ r
  spread_least = let n = spread_ends in omega arith

module _ {he : List ℕ} {x : ℕ} (k : Readable he x) {at end : ℕ} (w : List ℕ) where
  pub none_over : at ≤ end → end ≤ at → Spread (spreads k) at end w None w
  none_over i h =
      let s = spread_some k.words k.word in
      spread_part (spreads k) [] at end w (omega arith) (omega arith)

  pub none_spread : at < end → x ≡ 2 ^ 29 → Spread (spreads k) at end w (Some (at + 1)) (set w at none_header)
  none_spread h e = rw (reads_none k e) (spread_all_lem (none_header ∷ []) at end w (omega arith))

  module _ (n : x ≡ 2 ^ 29 → ⊥) where
    pub two_over : at ≤ end → end < at + 2 → Spread (spreads k) at end w None w
    two_over i h = let s = reads_two k n in spread_part (spreads k) [] at end w (omega arith) (omega arith)

    pub atom_spread : get_or he (x - 2 ^ 28) 0 < tuple_header → at + 2 ≤ end → {w' : List ℕ}
        → w' ≡ set (set w at (get_or he (x - 2 ^ 28) 0)) (at + 1) (get_or he (x - 2 ^ 28 + 1) 0)
        → Spread (spreads k) at end w (Some (at + 2)) w'
    atom_spread a h e =
        rw (e, add-one at, reads_atom k n a)
        (spread_all_lem (get_or he (x - 2 ^ 28) 0 ∷ get_or he (x - 2 ^ 28 + 1) 0 ∷ []) at end w (omega arith))

-- ---- a block, field by field

-- Of the block k the fields from the place q on, n of them, are still to come: the words before them are on the wires up to
-- the index `out`.
pub record Partly {he : List ℕ} {x : ℕ} (k : Readable he x) (q n at : ℕ) (w : List ℕ) (out : ℕ) (w' : List ℕ) : Type 0 where
  pub rest : FieldsReadable he q n
  pub done : List ℕ
  pub out_is : out ≡ at + length done
  pub wires_is : w' ≡ sets w at done
  pub both : spreads k ≡ done ++ spreads_all rest

-- none of them is written yet
pub partly_none : {he : List ℕ} {x : ℕ} (k : Readable he x) → (x ≡ 2 ^ 29 → ⊥) → tuple_header ≤ get_or he (x - 2 ^ 28) 0
    → {q n at : ℕ} {w w' : List ℕ} → q ≡ x - 2 ^ 28 + 2 → n ≡ get_or he (x - 2 ^ 28 + 1) 0
    → w' ≡ set (set w at (get_or he (x - 2 ^ 28) 0)) (at + 1) (get_or he (x - 2 ^ 28 + 1) 0)
    → Partly k q n at w (at + 2) w'
partly_none {he} {x} k o a {q} {n} {at} {w} {w'} s t e =
    rw (s, t)
    (record {
      rest = reads_fields k o a;
      done = get_or he (x - 2 ^ 28) 0 ∷ get_or he (x - 2 ^ 28 + 1) 0 ∷ [];
      out_is = refl;
      wires_is = e ∙ rw (add-one at) refl;
      both = reads_block k o a;
    })

module _ {he : List ℕ} {x : ℕ} {k : Readable he x} {q n at : ℕ} {w : List ℕ} {out : ℕ} {w' : List ℕ}
    (p : Partly k q n at w out w') where
  -- all of them are
  pub partly_all : {end : ℕ} → n ≡ 0 → out ≤ end → Spread (spreads k) at end w (Some out) w'
  partly_all {end} z h =
      let e : spreads k ≡ p.done =
      p.both ∙ ap (λ (l : List ℕ). p.done ++ l) (reads_end p.rest z) ∙ append-nil p.done in
      rw (e, p.wires_is, p.out_is) (spread_all_lem p.done at end w (omega (arith, p.out_is)))

  module _ (z : n ≡ 0 → ⊥) {end : ℕ} {o : Option ℕ} {w₁ : List ℕ}
      (c : (f : Readable he (get_or he q 0)) → Spread (spreads f) out end w' o w₁) where
    first : Spread (spreads (reads_first p.rest z)) out end w' o w₁
    first = c (reads_first p.rest z)

    -- the words of one field more
    abbrev more : List ℕ
    more = p.done ++ first.written

    more_is : w₁ ≡ sets w at more
    more_is =
        first.wires_is
        ∙ ap (λ (l : List ℕ). sets l out first.written) p.wires_is
        ∙ ap (λ (i : ℕ). sets (sets w at p.done) i first.written) p.out_is
        ∙ sets_append w at p.done first.written

    more_long : at + length more ≡ out + length first.written
    more_long = let e = length-append p.done first.written in omega (arith, p.out_is)

    split : spreads k ≡ p.done ++ (spreads (reads_first p.rest z) ++ spreads_all (reads_later p.rest z))
    split = p.both ∙ ap (λ (l : List ℕ). p.done ++ l) (reads_both p.rest z)

    -- it doesn't end in time
    pub partly_over : o ≡ None → Spread (spreads k) at end w None w₁
    partly_over h =
        let late : end < out + length (spreads (reads_first p.rest z)) = rw h at first.next_is in
        let a = spreads (reads_first p.rest z) in
        let b = spreads_all (reads_later p.rest z) in
        let e = ap (λ (l : List ℕ). length l) split ∙ length-append p.done (a ++ b) in
        let f = length-append a b in
        rw more_is
        (spread_part (spreads k) more at end w (let m = more_long in omega (arith, first.inside))
        (omega (arith, p.out_is)))

    pub partly_more : {q' n' next : ℕ} → q' ≡ q + 1 → n' ≡ n - 1 → o ≡ Some next → Partly k q' n' at w next w₁
    partly_more {q'} {n'} s t h =
        let ends = spread_ends first h in
        let a = spreads (reads_first p.rest z) in
        let b = spreads_all (reads_later p.rest z) in
        let e : first.written ≡ a = first.whole (omega (arith, ends.0, ends.1)) in
        rw (s, t)
        (record {
          rest = reads_later p.rest z;
          done = more;
          out_is = (let l = ap (λ (y : List ℕ). length y) e in omega (arith, ends.0)) ∙ sym more_long;
          wires_is = more_is;
          both = split ∙ sym (append_assoc p.done a b) ∙ rw e refl;
        })
