-- Laws of whole objects on the heap: they stay whole as it grows, a copy makes them, and what they spread out to.
use mathlib.Core.Path.{◌≡◌, refl, sym, ap, ◌∙◌}
use mathlib.Core.Bool.{true, not}
use mathlib.Core.List.{List, [], ◌∷◌, ◌++◌, append_assoc, append-nil}
use Prim.Native.Nat.{ℕ, zero, suc, ◌+◌, ◌-◌, ◌≤◌, ◌<◌}
use native.Mathlib.Nat.{not-suc-le-zero, le_of_suc-le-suc}
use native.Mathlib.Omega.{arith}
use borrow.Author.Tests.{lt-ltb, le-ltb}
use lib.Dec.{T}
use lib.ListN.{length, get_or, take, drop, length-append, length-drop, get_or-append}
use lib.Seq.{get_or-append_seam, get_or-append-add, get_or-take, get_or-drop, length-take-le}
use Rattle.hume.specs.Words.{Word, null, none, ref, raw, bits, is_ref, none_header, tuple_header}
use Rattle.hume.specs.Values.{Value, Values, end, more, count, atom_ok, block_ok, good, goods, prefix, prefixes, is_nothing, one_value, placed, placed_all, refers, refers_all, fields_by, body_by, word_by, spread_to, spread}
use Rattle.laws.specs.Whole.{Whole, Field, Held, none_held, ref_held}
use Rattle.laws.proofs.Tests.{and_left, and_right, and_both}
use Rattle.laws.proofs.Words.{bits_raw}
use Rattle.laws.proofs.Values.{atom_header, block_header, refers_count, value_one}

-- ---- a heap that grows

longer : (hs g : List Word) (n : ℕ) → n ≤ length hs → n ≤ length (hs ++ g)
longer hs g n h = let e = length-append hs g in omega arith

kept : (hs g : List Word) (p : ℕ) (w : Word) → p < length hs → get_or hs p null ≡ w → get_or (hs ++ g) p null ≡ w
kept hs g p w h e = get_or-append hs g null p h ∙ e

-- A whole object stays whole as the heap grows.
pub whole_grows : {hs : List Word} {p : ℕ} (g : List Word) → Whole hs p → Whole (hs ++ g) p
whole_grows {hs} g o =
    elim o as (λ p _. Whole (hs ++ g) p) (λ p w _. Field (hs ++ g) p w) [
      | Whole.atom p h x l e₁ e₂ ok
          ↦ Whole.atom p h x (longer hs g (p + 2) l) (kept hs g p (raw h) (omega arith) e₁)
          (kept hs g (p + 1) (raw x) (omega arith) e₂) ok
      | Whole.block p h n l e₁ e₂ ok (fs → ih)
          ↦ Whole.block p h n (longer hs g (p + 2 + n) l) (kept hs g p (raw h) (omega arith) e₁)
          (kept hs g (p + 1) (raw n) (omega arith) e₂) ok
          (λ i k. rw (get_or-append hs g null (p + 2 + i) (omega arith)) (ih i k))
      | Field.nothing p w e ↦ Field.nothing p w e
      | Field.lower p w q e l (o → ih) ↦ Field.lower p w q e l ih
    ]

-- So does a value that the heap holds.
pub held_grows : {hs : List Word} {w : Word} (g : List Word) → Held hs w → Held (hs ++ g) w
held_grows g (none_held e) = none_held e
held_grows g (ref_held p e o) = ref_held p e (whole_grows g o)

-- ---- what stands at a whole object

-- Its header and the word after it are inside the heap.
pub whole_inside : {hs : List Word} {p : ℕ} → Whole hs p → p + 2 ≤ length hs
whole_inside (Whole.atom p h x l e₁ e₂ ok) = l
whole_inside (Whole.block p h n l e₁ e₂ ok fs) = omega arith

-- The two words and the fields of a whole Tuple, Constr or Exn, as its header and its size read.
pub record Block (hs : List Word) (p : ℕ) : Type 0 where
  pub inside : p + 2 + bits (get_or hs (p + 1) null) ≤ length hs
  pub ok : T (block_ok (bits (get_or hs p null)) (bits (get_or hs (p + 1) null)))
  pub field : (i : ℕ) → i < bits (get_or hs (p + 1) null) → Field hs p (get_or hs (p + 2 + i) null)

bits_at : (w : Word) (n : ℕ) → w ≡ raw n → bits w ≡ n
bits_at w n e = ap bits e ∙ bits_raw n

-- What a whole object is, read from its two words: by its header an atom or a block.
pub data Object (hs : List Word) (p : ℕ) : Type 0 where
  is_atom : p + 2 ≤ length hs → T (atom_ok (bits (get_or hs p null)) (bits (get_or hs (p + 1) null))) → Object hs p
  is_block : Block hs p → Object hs p

-- Each whole object is one or the other.
pub whole_object : {hs : List Word} {p : ℕ} → Whole hs p → Object hs p
whole_object {hs} (Whole.atom p h x l e₁ e₂ ok) =
    is_atom l (rw (bits_at (get_or hs p null) h e₁, bits_at (get_or hs (p + 1) null) x e₂) ok)
whole_object {hs} (Whole.block p h n l e₁ e₂ ok fs) =
    let a = bits_at (get_or hs p null) h e₁ in
    let b = bits_at (get_or hs (p + 1) null) n e₂ in
    is_block (record { inside = rw b l; ok = rw (a, b) ok; field = λ i k. fs i (rw b at k) })

-- One with another header is a Tuple, Constr or Exn.
pub whole_block : {hs : List Word} {p : ℕ} → Whole hs p → tuple_header ≤ bits (get_or hs p null) → Block hs p
whole_block {hs} {p} o k = by (whole_object o)
  where
    by : Object hs p → Block hs p
    by (is_atom l ok) = absurd (let z = atom_header (bits (get_or hs p null)) _ ok in omega arith)
    by (is_block b) = b

-- A field of an object is a value that the heap holds.
pub field_held : {hs : List Word} {p : ℕ} {w : Word} → Field hs p w → Held hs w
field_held (Field.nothing p w e) = none_held e
field_held (Field.lower p w q e l o) = ref_held q e o

-- A value that the heap holds is a field of whatever comes next.
pub held_field : {hs : List Word} {w : Word} (g : List Word) → Held hs w → Field (hs ++ g) (length hs) w
held_field {hs} {w} g (none_held e) = Field.nothing (length hs) w e
held_field {hs} {w} g (ref_held q e o) =
    let l = whole_inside o in
    Field.lower (length hs) w q e (omega arith) (whole_grows g o)

-- The fields of a block, taken from the heap in a row, are as many as its size says,
pub block_fields_length : {hs : List Word} {p : ℕ} → Block hs p
    → length (take (bits (get_or hs (p + 1) null)) (drop (p + 2) hs)) ≡ bits (get_or hs (p + 1) null)
block_fields_length {hs} {p} b =
    let e = length-drop (p + 2) hs in
    let h = b.inside in
    length-take-le (bits (get_or hs (p + 1) null)) (drop (p + 2) hs) (omega arith)

-- and each is held.
pub block_fields_held : {hs : List Word} {p : ℕ} → Block hs p → (i : ℕ) → i < bits (get_or hs (p + 1) null)
    → Held hs (get_or (take (bits (get_or hs (p + 1) null)) (drop (p + 2) hs)) i null)
block_fields_held {hs} {p} b i h =
    rw (get_or-take (bits (get_or hs (p + 1) null)) (drop (p + 2) hs) i null h, get_or-drop (p + 2) hs i null)
    (field_held (b.field i h))

-- ---- one object more

-- A Bool, Int or Float at the end of the heap is whole.
pub atom_whole : (hs : List Word) (h x : ℕ) → T (atom_ok h x) → Whole (hs ++ raw h ∷ raw x ∷ []) (length hs)
atom_whole hs h x ok =
    let e = length-append hs (raw h ∷ raw x ∷ []) in
    Whole.atom (length hs) h x (omega arith) (get_or-append_seam hs (raw h) (raw x ∷ []) null)
    (get_or-append-add hs (raw h ∷ raw x ∷ []) 1 null) ok

-- So is a Tuple, Constr or Exn whose fields the heap holds.
pub block_whole : (hs : List Word) (h : ℕ) (fs : List Word) → T (block_ok h (length fs))
    → ((i : ℕ) → i < length fs → Held hs (get_or fs i null)) → Whole (hs ++ raw h ∷ raw (length fs) ∷ fs) (length hs)
block_whole hs h fs ok each =
    let object = raw h ∷ raw (length fs) ∷ fs in
    let e = length-append hs object in
    Whole.block (length hs) h (length fs) (omega arith) (get_or-append_seam hs (raw h) (raw (length fs) ∷ fs) null)
    (get_or-append-add hs object 1 null) ok
    (λ i k. rw (place i, get_or-append-add hs object (suc (suc i)) null) (held_field object (each i k)))
  where
    place : (i : ℕ) → length hs + 2 + i ≡ length hs + suc (suc i)
    place i = omega arith

-- ---- a copied value

each_more : (P : Word → Type 0) (w : Word) (ws : List Word) → P w → ((i : ℕ) → i < length ws → P (get_or ws i null))
    → (i : ℕ) → i < length (w ∷ ws) → P (get_or (w ∷ ws) i null)
each_more P w ws a b zero h = a
each_more P w ws a b (suc i) h = b i (le_of_suc-le-suc h)

mutual
  unfolding good placed

  -- What a copy's word refers to is held by the heap that the copy leaves.
  pub placed_held : (v : Value) (hs : List Word) → T (good v) → Held (hs ++ placed v (length hs)) (refers v (length hs))
  placed_held Value.nothing hs g = none_held refl
  placed_held (Value.atom h x) hs g = ref_held (length hs) refl (atom_whole hs h x g)
  placed_held (Value.block h vs) hs g =
      let hp = length hs in
      let fs = refers_all vs hp in
      let heap = hs ++ placed_all vs hp in
      let e : length fs ≡ count vs = refers_count vs hp in
      let ok : T (block_ok h (length fs)) = rw e (and_left (block_ok h (count vs)) _ g) in
      let o = block_whole heap h fs ok (placed_all_held vs hs (and_right (block_ok h (count vs)) _ g)) in
      ref_held (hp + length (placed_all vs hp)) refl
      (rw (← length-append hs (placed_all vs hp), ← append_assoc hs (placed_all vs hp) _, ← e) o)

  -- And so with several values.
  pub placed_all_held : (vs : Values) (hs : List Word) → T (goods vs) → (i : ℕ) → i < length (refers_all vs (length hs))
      → Held (hs ++ placed_all vs (length hs)) (get_or (refers_all vs (length hs)) i null)
  placed_all_held end hs g = λ i k. absurd (not-suc-le-zero k)
  placed_all_held (more v vs) hs g =
      let hp = length hs in
      let now = placed v hp in
      let hp₁ = hp + length now in
      let e : length (hs ++ now) ≡ hp₁ = length-append hs now in
      let later = rw e at (placed_all_held vs (hs ++ now) (and_right (good v) _ g)) in
      rw (← append_assoc hs now _)
      (each_more (λ w. Held (hs ++ now ++ placed_all vs hp₁) w) (refers v hp) (refers_all vs hp₁)
      (held_grows (placed_all vs hp₁) (placed_held v hs (and_left (good v) _ g))) later)

-- ---- what a word spreads out to

-- None spreads out to its header, on any heap and to any depth.
pub spread_none : (d : ℕ) (hs : List Word) → spread_to d hs none ≡ none_header ∷ []
unfolding spread_to word_by is_ref
spread_none zero hs = refl
spread_none (suc d) hs = refl

spread_ref : (d : ℕ) (hs : List Word) (p : ℕ) → p < d
    → spread_to d hs (ref p) ≡ word_by true (spread_to (d - 1) hs) hs p
unfolding spread_to is_ref
spread_ref zero hs p k = absurd (not-suc-le-zero k)
spread_ref (suc d) hs p k = let e : suc d - 1 ≡ d = omega arith in rw e refl

atom_words : (f : Word → List ℕ) (hs : List Word) (p h x : ℕ) → get_or hs p none ≡ raw h → get_or hs (p + 1) none ≡ raw x
    → T (atom_ok h x) → word_by true f hs p ≡ h ∷ x ∷ []
unfolding word_by body_by
atom_words f hs p h x e₁ e₂ ok =
    rw (e₁, bits_raw h, lt-ltb h tuple_header (atom_header h x ok), e₂, bits_raw x) refl

block_words : (f : Word → List ℕ) (hs : List Word) (p h n : ℕ) → get_or hs p none ≡ raw h → get_or hs (p + 1) none ≡ raw n
    → T (block_ok h n) → word_by true f hs p ≡ h ∷ n ∷ fields_by f hs (p + 2) n
unfolding word_by body_by
block_words f hs p h n e₁ e₂ ok =
    rw (e₁, bits_raw h, le-ltb h tuple_header (block_header h n ok).least, e₂, bits_raw n) refl

-- inside a list the default does not matter
get_d_inside : (hs : List Word) (i : ℕ) (c d : Word) → i < length hs → get_or hs i c ≡ get_or hs i d
get_d_inside [] i c d h = absurd (not-suc-le-zero h)
get_d_inside (w ∷ ws) zero c d h = refl
get_d_inside (w ∷ ws) (suc i) c d h = get_d_inside ws i c d (le_of_suc-le-suc h)

seen : (hs g : List Word) (i : ℕ) → i < length hs → get_or (hs ++ g) i none ≡ get_or hs i null
seen hs g i h = get_or-append hs g none i h ∙ get_d_inside hs i none null h

-- The value that the word w stands for, on the heap and on each that it grows to, followed b levels or more.
pub record Reading (hs : List Word) (b : ℕ) (w : Word) : Type 0 where
  pub value : Value
  pub good : T (good value)
  pub some : T (is_ref w) → T (not (is_nothing value))
  pub spreads : (g : List Word) (d : ℕ) → b ≤ d → spread_to d (hs ++ g) w ≡ prefix value

record Readings (hs : List Word) (b q n : ℕ) : Type 0 where
  values : Values
  long : count values ≡ n
  good : T (goods values)
  spreads : (g : List Word) (d : ℕ) → b ≤ d → fields_by (spread_to d (hs ++ g)) (hs ++ g) q n ≡ prefixes values

readings : (hs : List Word) (b q n : ℕ) → q + n ≤ length hs
    → ((i : ℕ) → i < n → Reading hs b (get_or hs (q + i) null)) → Readings hs b q n
unfolding goods prefixes fields_by
readings hs b q zero l each = record { values = end; long = refl; good = tt; spreads = λ g d h. refl }
readings hs b q (suc n) l each =
    let now : Reading hs b (get_or hs q null) = rw (here q) at (each 0 (omega arith)) in
    let later = readings hs b (suc q) n (omega arith) (λ i k. rw (← place q i) (each (suc i) (omega arith))) in
    record {
      values = more now.value later.values;
      long = ap suc later.long;
      good = and_both (Rattle.hume.specs.Values.good now.value) _ now.good later.good;
      spreads = λ g d h. rw (seen hs g q (omega arith), now.spreads g d h, later.spreads g d h) refl;
    }
  where
    here : (q : ℕ) → q + 0 ≡ q
    here q = omega arith

    place : (q i : ℕ) → q + suc i ≡ suc q + i
    place q i = omega arith

atom_spreads : (hs : List Word) (p h x : ℕ) → p + 2 ≤ length hs → get_or hs p null ≡ raw h → get_or hs (p + 1) null ≡ raw x
    → T (atom_ok h x) → (g : List Word) (d : ℕ) → suc p ≤ d → spread_to d (hs ++ g) (ref p) ≡ h ∷ x ∷ []
atom_spreads hs p h x l e₁ e₂ ok g d k =
    spread_ref d (hs ++ g) p k
    ∙ atom_words (spread_to (d - 1) (hs ++ g)) (hs ++ g) p h x (seen hs g p (omega arith) ∙ e₁)
    (seen hs g (p + 1) (omega arith) ∙ e₂) ok

block_spreads : (hs : List Word) (p h n : ℕ) → p + 2 + n ≤ length hs → get_or hs p null ≡ raw h
    → get_or hs (p + 1) null ≡ raw n → T (block_ok h n) → (r : Readings hs p (p + 2) n) (g : List Word) (d : ℕ) → suc p ≤ d
    → spread_to d (hs ++ g) (ref p) ≡ h ∷ n ∷ prefixes r.values
block_spreads hs p h n l e₁ e₂ ok r g d k =
    spread_ref d (hs ++ g) p k
    ∙ block_words (spread_to (d - 1) (hs ++ g)) (hs ++ g) p h n (seen hs g p (omega arith) ∙ e₁)
    (seen hs g (p + 1) (omega arith) ∙ e₂) ok
    ∙ ap (λ (ws : List ℕ). h ∷ n ∷ ws) (r.spreads g (d - 1) (omega arith))

block_reading : (hs : List Word) (p h n : ℕ) → p + 2 + n ≤ length hs → get_or hs p null ≡ raw h
    → get_or hs (p + 1) null ≡ raw n → T (block_ok h n) → Readings hs p (p + 2) n → Reading hs (suc p) (ref p)
unfolding good prefix
block_reading hs p h n l e₁ e₂ ok r =
    let e = r.long in
    record {
      value = Value.block h r.values;
      good = and_both (block_ok h (count r.values)) _ (rw e ok) r.good;
      some = λ _. tt;
      spreads = λ g d k.
          block_spreads hs p h n l e₁ e₂ ok r g d k ∙ ap (λ (m : ℕ). h ∷ m ∷ prefixes r.values) (sym e);
    }

none_reading : (hs : List Word) (b : ℕ) → Reading hs b none
unfolding good prefix is_ref
none_reading hs b =
    record { value = Value.nothing; good = tt; some = λ t. t; spreads = λ g d k. spread_none d (hs ++ g) }

deeper : {hs : List Word} {b c : ℕ} {w : Word} → b ≤ c → Reading hs b w → Reading hs c w
deeper l r =
    record { value = r.value; good = r.good; some = r.some; spreads = λ g d k. r.spreads g d (omega arith) }

-- A whole object stands for one value, followed from any depth above its place.
pub whole_reading : {hs : List Word} {p : ℕ} → Whole hs p → Reading hs (suc p) (ref p)
unfolding good prefix
whole_reading {hs} o =
    elim o as (λ p _. Reading hs (suc p) (ref p)) (λ p w _. Reading hs p w) [
      | Whole.atom p h x l e₁ e₂ ok
          ↦ record { value = Value.atom h x; good = ok; some = λ _. tt; spreads = atom_spreads hs p h x l e₁ e₂ ok }
      | Whole.block p h n l e₁ e₂ ok (fs → ih)
          ↦ block_reading hs p h n l e₁ e₂ ok (readings hs p (p + 2) n l ih)
      | Field.nothing p w e ↦ rw e (none_reading hs p)
      | Field.lower p w q e l (o → ih) ↦ rw e (deeper l ih)
    ]

-- So does a value that the heap holds.
pub held_reading : {hs : List Word} {w : Word} → Held hs w → Reading hs (suc w.payload) w
held_reading {hs} (none_held e) = rw e (none_reading hs 1)
held_reading (ref_held p e o) = rw e (whole_reading o)

-- Any depth above the place that it refers to spreads a word out whole.
pub spread_enough : {hs : List Word} {w : Word} → Held hs w → (d : ℕ) → w.payload < d → spread_to d hs w ≡ spread hs w
unfolding spread
spread_enough {hs} {w} o d k =
    let r = rw (append-nil hs) at ((held_reading o).spreads []) in
    r d k ∙ sym (r (suc w.payload) (omega arith))

-- What a held word stands for: a good value, which is None only for None's word.
pub record Stands (hs : List Word) (w : Word) : Type 0 where
  pub value : Value
  pub good : T (good value)
  pub some : T (is_ref w) → T (not (is_nothing value))
  pub is : spread hs w ≡ prefix value

-- Each held word stands for a value.
pub held_stands : {hs : List Word} {w : Word} → Held hs w → Stands hs w
unfolding spread
held_stands {hs} {w} o =
    let r = held_reading o in
    record {
      value = r.value;
      good = r.good;
      some = r.some;
      is = rw (append-nil hs) at (r.spreads [] (suc w.payload) (omega arith));
    }

-- A held reference spreads out to one value.
pub spread_one : {hs : List Word} {w : Word} → Held hs w → T (is_ref w) → T (one_value (spread hs w))
spread_one o t = let s = held_stands o in rw s.is (value_one s.value s.good (s.some t))

-- ---- a copied value spreads out to itself

abbrev spread_all : (Word → List ℕ) → List Word → List ℕ
spread_all f [] = []
spread_all f (w ∷ ws) = f w ++ spread_all f ws

fields_at : (f : Word → List ℕ) (hs ws g heap : List Word) (q : ℕ) → heap ≡ hs ++ (ws ++ g) → length hs ≡ q
    → fields_by f heap q (length ws) ≡ spread_all f ws
unfolding fields_by
fields_at f hs [] g heap q e l = refl
fields_at f hs (w ∷ ws) g heap q e l =
    let here : get_or heap q none ≡ w = rw (e, ← l) (get_or-append_seam hs w (ws ++ g) none) in
    let same : heap ≡ hs ++ w ∷ [] ++ (ws ++ g) = e ∙ sym (append_assoc hs (w ∷ []) (ws ++ g)) in
    let n : length (hs ++ w ∷ []) ≡ suc q = length-append hs (w ∷ []) ∙ omega arith in
    rw (here, fields_at f (hs ++ w ∷ []) ws g heap (suc q) same n) refl

header_at : (hs ws heap : List Word) (a b : Word) (p : ℕ) → heap ≡ hs ++ a ∷ b ∷ ws → length hs ≡ p
    → get_or heap p none ≡ a
header_at hs ws heap a b p e l = rw (e, ← l) (get_or-append_seam hs a (b ∷ ws) none)

second_at : (hs ws heap : List Word) (a b : Word) (p : ℕ) → heap ≡ hs ++ a ∷ b ∷ ws → length hs ≡ p
    → get_or heap (p + 1) none ≡ b
second_at hs ws heap a b p e l = rw (e, ← l) (get_or-append-add hs (a ∷ b ∷ ws) 1 none)

mutual
  unfolding good prefix placed

  placed_spreads : (v : Value) (hs g heap : List Word) (hp d : ℕ) → T (good v) → length hs ≡ hp
      → heap ≡ hs ++ (placed v hp ++ g) → hp + length (placed v hp) ≤ d → spread_to d heap (refers v hp) ≡ prefix v
  placed_spreads Value.nothing hs g heap hp d ok l e k = spread_none d heap
  placed_spreads (Value.atom h x) hs g heap hp d ok l e k =
      spread_ref d heap hp (omega arith)
      ∙ atom_words (spread_to (d - 1) heap) heap hp h x (header_at hs g heap (raw h) (raw x) hp e l)
      (second_at hs g heap (raw h) (raw x) hp e l) ok
  placed_spreads (Value.block h vs) hs g heap hp d ok l e k =
      let low = placed_all vs hp in
      let fs = refers_all vs hp in
      let object = raw h ∷ raw (count vs) ∷ fs in
      let p = hp + length low in
      let f = spread_to (d - 1) heap in
      let n = length-append low object in
      let many : length fs ≡ count vs = refers_count vs hp in
      let top : length (hs ++ low) ≡ p = length-append hs low ∙ omega arith in
      let at : heap ≡ hs ++ low ++ (object ++ g) = e ∙ simp append_assoc in
      let after : length (hs ++ low ++ raw h ∷ raw (count vs) ∷ []) ≡ p + 2 =
      length-append (hs ++ low) (raw h ∷ raw (count vs) ∷ []) ∙ omega arith in
      let at₂ : heap ≡ hs ++ low ++ raw h ∷ raw (count vs) ∷ [] ++ (fs ++ g) = e ∙ simp append_assoc in
      let fields = fields_at f (hs ++ low ++ raw h ∷ raw (count vs) ∷ []) fs g heap (p + 2) at₂ after in
      let all = placed_all_spreads vs hs (object ++ g) heap hp (d - 1) (and_right (block_ok h (count vs)) _ ok) l
      (e ∙ simp append_assoc) (omega arith) in
      spread_ref d heap p (omega arith)
      ∙ block_words f heap p h (count vs) (header_at (hs ++ low) (fs ++ g) heap (raw h) (raw (count vs)) p at top)
      (second_at (hs ++ low) (fs ++ g) heap (raw h) (raw (count vs)) p at top) (and_left (block_ok h (count vs)) _ ok)
      ∙ ap (λ (ws : List ℕ). h ∷ count vs ∷ ws) (rw many at fields ∙ all)

  placed_all_spreads : (vs : Values) (hs g heap : List Word) (hp d : ℕ) → T (goods vs) → length hs ≡ hp
      → heap ≡ hs ++ (placed_all vs hp ++ g) → hp + length (placed_all vs hp) ≤ d
      → spread_all (spread_to d heap) (refers_all vs hp) ≡ prefixes vs
  placed_all_spreads end hs g heap hp d ok l e k = refl
  placed_all_spreads (more v vs) hs g heap hp d ok l e k =
      let now = placed v hp in
      let hp₁ = hp + length now in
      let later = placed_all vs hp₁ in
      let n = length-append now later in
      let one = placed_spreads v hs (later ++ g) heap hp d (and_left (good v) _ ok) l
      (e ∙ ap (λ (z : List Word). hs ++ z) (append_assoc now later g)) (omega arith) in
      let same : heap ≡ hs ++ now ++ (later ++ g) = e ∙ simp append_assoc in
      let rest = placed_all_spreads vs (hs ++ now) g heap hp₁ d (and_right (good v) _ ok)
      (length-append hs now ∙ omega arith) same (omega arith) in
      rw (one, rest) refl

-- A copied value spreads out to its prefix form.
pub spread_placed : (v : Value) (hs : List Word) → T (good v)
    → spread (hs ++ placed v (length hs)) (refers v (length hs)) ≡ prefix v
spread_placed v hs ok =
    let hp = length hs in
    let w = refers v hp in
    let new = placed v hp in
    let d = hp + length new + suc w.payload in
    sym (spread_enough (placed_held v hs ok) d (omega arith))
    ∙ placed_spreads v hs [] (hs ++ new) hp d ok refl (rw (append-nil new) refl) (omega arith)
