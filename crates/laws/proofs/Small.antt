-- Laws of 32-bit words: of a value's prefix form, of what a copy places, and of what a word spreads out to.
use mathlib.Core.Path.{◌≡◌}
use mathlib.Core.Bool.{Bool, true, false}
use mathlib.Core.List.{List, [], ◌∷◌}
use Prim.Native.Nat.{ℕ, zero, suc, ◌+◌, ◌*◌, ◌/◌, ◌%◌, ◌^◌, ◌≤◌, ◌<◌}
use native.Mathlib.Omega.{arith}
use lib.Dec.{T, ltb, ltb→lt, lt→ltb}
use lib.ListN.{length, get_or}
use Rattle.hume.specs.Words.{Word, null, none, ref, raw, bits, is_ref, tuple_header, none_header}
use Rattle.hume.specs.Values.{Value, nothing, atom, block, Values, end, more, count, block_ok, good, goods, prefix, prefixes, placed, placed_all, refers, refers_all, fields_by, body_by, word_by, spread_to, spread}
use Rattle.laws.specs.Accepted.{Words32}
use Rattle.laws.specs.Sizes.{size, sizes, narrow, narrows, Small}
use Rattle.laws.proofs.Tests.{and_left, and_right, and_both}
use Rattle.laws.proofs.Each.{each_default, each_nil, each_cons, each_append, words_nil, words_cons, words_append, words_left, words_right}
use Rattle.laws.proofs.Values.{atom_header, block_header, length_placed, length_placed_all}

-- ---- a word

-- Null is small,
pub small_null : Small null
small_null = record { type = omega arith; payload = omega arith }

-- so is None,
pub small_none : Small none
small_none = record { type = omega arith; payload = omega arith }

-- and a reference to a place below 2^28.
pub small_ref : (p : ℕ) → p < 2 ^ 28 → Small (ref p)
small_ref p h = record { type = omega arith; payload = h }

-- A number of 32 bits stands on the heap as a small word.
pub small_raw : (n : ℕ) → n < 2 ^ 32 → Small (raw n)
unfolding raw
small_raw n h = record { type = omega arith; payload = omega arith }

-- The bits of a small word are 32.
pub small_bits : (w : Word) → Small w → bits w < 2 ^ 32
unfolding bits
small_bits w s = let t = s.type in let p = s.payload in omega arith

-- A small word is read back from its bits.
pub raw_bits : (w : Word) → Small w → raw (bits w) ≡ w
unfolding bits raw
raw_bits w s =
    let p : w.payload < 2 ^ 28 = s.payload in
    let a : (w.type * 2 ^ 28 + w.payload) / 2 ^ 28 ≡ w.type = omega arith in
    let b : (w.type * 2 ^ 28 + w.payload) % 2 ^ 28 ≡ w.payload = omega arith in
    λ i. record { type = a i; payload = b i }

-- ---- prefix form

mutual
  unfolding prefix narrow

  -- A value whose prefix form is of 32-bit words has payloads of 32 bits.
  pub words_narrow : (v : Value) → Words32 (prefix v) → T (narrow v)
  words_narrow nothing s = tt
  words_narrow (atom h x) s = lt→ltb x (2 ^ 32) (s.each 1)
  words_narrow (block h vs) s = words_narrows vs (words_right (h ∷ count vs ∷ []) (prefixes vs) s)

  -- So with several values.
  pub words_narrows : (vs : Values) → Words32 (prefixes vs) → T (narrows vs)
  words_narrows end s = tt
  words_narrows (more v vs) s =
      and_both (narrow v) _ (words_narrow v (words_left (prefix v) (prefixes vs) s))
      (words_narrows vs (words_right (prefix v) (prefixes vs) s))

mutual
  unfolding good prefix narrow

  -- The prefix form of a good value with payloads of 32 bits is of 32-bit words.
  pub narrow_words : (v : Value) → T (good v) → T (narrow v) → Words32 (prefix v)
  narrow_words nothing g t = words_cons none_header [] (omega arith) words_nil
  narrow_words (atom h x) g t =
      let k = atom_header h x g in
      words_cons h (x ∷ []) (omega arith) (words_cons x [] (ltb→lt x (2 ^ 32) t) words_nil)
  narrow_words (block h vs) g t =
      let k = block_header h (count vs) (and_left (block_ok h (count vs)) _ g) in
      words_cons h (count vs ∷ prefixes vs) (omega arith)
      (words_cons (count vs) (prefixes vs) (omega arith) (narrows_words vs (and_right (block_ok h (count vs)) _ g) t))

  -- So with several values.
  pub narrows_words : (vs : Values) → T (goods vs) → T (narrows vs) → Words32 (prefixes vs)
  narrows_words end g t = words_nil
  narrows_words (more v vs) g t =
      words_append (prefix v) (prefixes vs)
      (narrow_words v (and_left (good v) _ g) (and_left (narrow v) _ t))
      (narrows_words vs (and_right (good v) _ g) (and_right (narrow v) _ t))

-- ---- a copy

-- A copy's word is small where the copy ends within 2^28 places.
pub refers_small : (v : Value) (hp : ℕ) → hp + size v ≤ 2 ^ 28 → Small (refers v hp)
unfolding refers size
refers_small nothing hp h = small_none
refers_small (atom g x) hp h = small_ref hp (omega arith)
refers_small (block g vs) hp h =
    let e = length_placed_all vs hp in
    small_ref (hp + length (placed_all vs hp)) (omega arith)

refers_all_small : (vs : Values) (hp : ℕ) → hp + sizes vs ≤ 2 ^ 28 → (i : ℕ) → Small (get_or (refers_all vs hp) i null)
unfolding refers size
refers_all_small end hp h = each_nil Small null small_null
refers_all_small (more v vs) hp h =
    let hp₁ = hp + length (placed v hp) in
    let e = length_placed v hp in
    each_cons Small null (refers v hp) (refers_all vs hp₁) (refers_small v hp (omega arith))
    (refers_all_small vs hp₁ (omega arith))

mutual
  unfolding good placed size narrow

  -- The words that it places are small.
  pub placed_small : (v : Value) (hp : ℕ) → T (good v) → T (narrow v) → hp + size v ≤ 2 ^ 28
      → (i : ℕ) → Small (get_or (placed v hp) i null)
  placed_small nothing hp g t h = each_nil Small null small_null
  placed_small (atom k x) hp g t h =
      let l = atom_header k x g in
      each_cons Small null (raw k) (raw x ∷ []) (small_raw k (omega arith))
      (each_cons Small null (raw x) [] (small_raw x (ltb→lt x (2 ^ 32) t)) (each_nil Small null small_null))
  placed_small (block k vs) hp g t h =
      let l = block_header k (count vs) (and_left (block_ok k (count vs)) _ g) in
      let fs = refers_all vs hp in
      each_append Small null (placed_all vs hp) (raw k ∷ raw (count vs) ∷ fs)
      (placed_all_small vs hp (and_right (block_ok k (count vs)) _ g) t (omega arith))
      (each_cons Small null (raw k) (raw (count vs) ∷ fs) (small_raw k (omega arith))
      (each_cons Small null (raw (count vs)) fs (small_raw (count vs) (omega arith))
      (refers_all_small vs hp (omega arith))))

  -- So with several values.
  pub placed_all_small : (vs : Values) (hp : ℕ) → T (goods vs) → T (narrows vs) → hp + sizes vs ≤ 2 ^ 28
      → (i : ℕ) → Small (get_or (placed_all vs hp) i null)
  placed_all_small end hp g t h = each_nil Small null small_null
  placed_all_small (more v vs) hp g t h =
      let hp₁ = hp + length (placed v hp) in
      let e = length_placed v hp in
      each_append Small null (placed v hp) (placed_all vs hp₁)
      (placed_small v hp (and_left (good v) _ g) (and_left (narrow v) _ t) (omega arith))
      (placed_all_small vs hp₁ (and_right (good v) _ g) (and_right (narrow v) _ t) (omega arith))

-- ---- what a word spreads out to

module _ (hs : List Word) (small : (i : ℕ) → Small (get_or hs i null)) where
  bits_words : (i : ℕ) → bits (get_or hs i none) < 2 ^ 32
  bits_words i = small_bits (get_or hs i none) (each_default Small null hs none small_none small i)

  fields_words : (f : Word → List ℕ) → ((w : Word) → Words32 (f w)) → (q n : ℕ) → Words32 (fields_by f hs q n)
  unfolding fields_by
  fields_words f each q zero = words_nil
  fields_words f each q (suc n) =
      words_append (f (get_or hs q none)) (fields_by f hs (suc q) n) (each (get_or hs q none)) (fields_words f each (suc q) n)

  body_words : (b : Bool) (f : Word → List ℕ) → ((w : Word) → Words32 (f w)) → (p : ℕ) → Words32 (body_by b f hs p)
  unfolding body_by
  body_words true f each p = words_cons (bits (get_or hs (p + 1) none)) [] (bits_words (p + 1)) words_nil
  body_words false f each p =
      let n = bits (get_or hs (p + 1) none) in
      words_cons n (fields_by f hs (p + 2) n) (bits_words (p + 1)) (fields_words f each (p + 2) n)

  word_words : (b : Bool) (f : Word → List ℕ) → ((w : Word) → Words32 (f w)) → (p : ℕ) → Words32 (word_by b f hs p)
  unfolding word_by
  word_words true f each p =
      let h = bits (get_or hs p none) in
      words_cons h (body_by (ltb h tuple_header) f hs p) (bits_words p) (body_words (ltb h tuple_header) f each p)
  word_words false f each p = words_cons none_header [] (omega arith) words_nil

  -- A word on a heap of small words spreads out to words of 32 bits, to any depth,
  pub spread_to_words : (d : ℕ) (w : Word) → Words32 (spread_to d hs w)
  unfolding spread_to
  spread_to_words zero w = words_cons none_header [] (omega arith) words_nil
  spread_to_words (suc d) w = word_words (is_ref w) (spread_to d hs) (spread_to_words d) w.payload

  -- and so in full.
  pub spread_words : (w : Word) → Words32 (spread hs w)
  unfolding spread
  spread_words w = spread_to_words (suc w.payload) w
