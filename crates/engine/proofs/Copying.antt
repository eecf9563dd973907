-- Copying a value from a wire to the heap: what the wire has where a cell or a block's fields begin, and what CopyInput leads
-- to.
use mathlib.Core.Path.{◌≡◌, refl, sym, ap, ◌∙◌, subst}
use mathlib.Core.Bool.{false, not}
use mathlib.Core.List.{List, [], ◌∷◌, ◌++◌, map, append_assoc, append-nil}
use Prim.Native.Nat.{ℕ, suc, ◌+◌, ◌-◌, ◌*◌, ◌^◌, ◌≤◌, ◌<◌}
use native.Mathlib.Omega.{arith}
use native.Mathlib.Nat.{add-zero}
use lib.Dec.{T, eqb, eqb→eq, T_not, not_T}
use lib.ListN.{length, get_or, set, take, drop, length-append, length-drop, length-map, length-set, take-append-drop}
use lib.Seq.{sets, drop-set-lt, get_or-take, get_or-drop, length-take-le, drop-drop, drop-append_seam, append_snoc}
use Rattle.limits.specs.Machine.{goes}
use Rattle.hume.specs.Words.{Word, none, ref, raw, bits, none_header, tuple_header}
use Rattle.hume.specs.Values.{Value, nothing, atom, block, Values, end, more, count, block_ok, good, goods, prefix, prefixes, placed, placed_all, refers, refers_all, row, first, is_nothing, wire_count, wire_words, is_empty}
use Rattle.hume.specs.State.{State, fault, hp, next, leaving}
use Rattle.hume.specs.Instructions.{CopyInput}
use Rattle.laws.specs.Sizes.{size, sizes, heads}
use Rattle.laws.specs.Accepted.{WiresFit}
use Rattle.hume.specs.Image.{Program}
use Rattle.laws.proofs.Tests.{and_left, and_right, eqb_of}
use Rattle.laws.proofs.Words.{bits_raw}
use Rattle.laws.proofs.Deeds.{need_yes, need_no}
use Rattle.laws.proofs.Values.{atom_header, block_header, length_placed, length_placed_all, prefix_least, one_value_lem, size_heads, size_most, heads_at_none, heads_at_cell, heads_at_end}
use Rattle.laws.proofs.Wires.{wire_full}
use Rattle.engine.specs.Fits.{Fit}
use Rattle.engine.specs.Copies.{WireFits, Laid, CellHere, ValueHere, BlockHere, Copied, CellPlaced}
use Rattle.engine.specs.Turns.{Bears, core, Holds, halt, Buffers, Turned, priced}
use Rattle.engine.specs.declared.Ending.TheVariants as ending
use Rattle.engine.specs.Limits.{Limits}
use Rattle.engine.specs.declared.regs.Regs.{Regs}
use Rattle.engine.specs.declared.regs.Turn.{Turn}
use Rattle.engine.proofs.After.{built}
use Rattle.engine.proofs.Turning.{Leads, stops, lead_grown}
use Rattle.engine.proofs.Areas.{bears_push, locals_append}
use Rattle.engine.proofs.Laying.{laid_none, laid_wide, laid_then, laid_set, laid_sets, laid_pair, laid_whole, waits_next}

-- ---- stores in a row

-- the words that are stored bear the words
pub bears_sets : (l : List ℕ) (hs g : List Word) → Bears l hs → length hs + length g ≤ length l
    → Bears (sets l (length hs) (map bits g)) (hs ++ g)
bears_sets l hs [] b h = rw (append-nil hs) b
bears_sets l hs (w ∷ g) b h =
    let e : length (hs ++ w ∷ []) ≡ suc (length hs) = length-append hs (w ∷ []) ∙ omega arith in
    let m : length (set l (length hs) (bits w)) ≡ length l = length-set l (length hs) (bits w) in
    let z : Bears (set l (length hs) (bits w)) (hs ++ w ∷ []) =
    bears_push l hs w (length hs) (bits w) b refl refl (omega arith) in
    let later = bears_sets (set l (length hs) (bits w)) (hs ++ w ∷ []) g z (rw (e, m) (omega arith)) in
    subst (λ (k : ℕ). Bears (sets (set l (length hs) (bits w)) k (map bits g)) (hs ++ w ∷ g)) e
    (rw (append_snoc hs w g) at later)

bits_append : (a b : List Word) → map bits (a ++ b) ≡ map bits a ++ map bits b
bits_append [] b = refl
bits_append (w ∷ a) b = ap (λ (z : List ℕ). bits w ∷ z) (bits_append a b)

-- ---- words that go on with others

-- the list goes on at i with the two words a and b, and then r
pub record Pair (l : List ℕ) (i a b : ℕ) (r : List ℕ) : Type 0 where
  pub inside : i + 1 < length l
  pub one : get_or l i 0 ≡ a
  pub two : get_or l (i + 1) 0 ≡ b
  pub then : drop (i + 2) l ≡ r

first_at : (l : List ℕ) (i a : ℕ) (r : List ℕ) → drop i l ≡ a ∷ r → get_or l i 0 ≡ a
first_at l i a r e =
    let z : i + 0 ≡ i = omega arith in
    sym (rw z at (get_or-drop i l 0 0)) ∙ ap (λ (x : List ℕ). get_or x 0 0) e

pair_at : (l : List ℕ) (i a b : ℕ) (r : List ℕ) → drop i l ≡ a ∷ b ∷ r → Pair l i a b r
pair_at l i a b r e =
    let n = length-drop i l in
    let m = ap (λ (x : List ℕ). length x) e in
    record {
      inside = omega arith;
      one = first_at l i a (b ∷ r) e;
      two = sym (get_or-drop i l 1 0) ∙ ap (λ (x : List ℕ). get_or x 1 0) e;
      then = sym (drop-drop 2 i l) ∙ ap (λ (x : List ℕ). drop 2 x) e;
    }

-- past what the list goes on with
past : (l : List ℕ) (i : ℕ) (a r : List ℕ) → drop i l ≡ a ++ r → drop (i + length a) l ≡ r
past l i a r e = sym (drop-drop (length a) i l) ∙ ap (λ (x : List ℕ). drop (length a) x) e ∙ drop-append_seam a r

-- ---- references

bits_ref : (p : ℕ) → 2 ^ 28 + p ≡ bits (ref p)
unfolding bits
bits_ref p = omega arith

bits_nothing : 2 ^ 29 ≡ bits none
unfolding bits
bits_nothing = refl

-- ---- the pass that counts the cells

module _ (w : List ℕ) (from k i n : ℕ) (inside : from + k ≤ length w) where
  counted_long : length (take k (drop from w)) ≡ k
  counted_long = let a = length-drop from w in length-take-le k (drop from w) (omega arith)

  counted_at : i < k → get_or (take k (drop from w)) i 0 ≡ get_or w (from + i) 0
  counted_at h = get_or-take k (drop from w) i 0 h ∙ get_or-drop from w i 0

  pub count_none : i < k → get_or w (from + i) 0 ≡ none_header
      → n + heads (drop i (take k (drop from w))) ≡ heads (take k (drop from w))
      → n + heads (drop (i + 1) (take k (drop from w))) ≡ heads (take k (drop from w))
  count_none h e t =
      let a = heads_at_none (take k (drop from w)) i (rw counted_long h) (counted_at h ∙ e) in
      ap (λ (z : ℕ). n + z) (sym a) ∙ t

  pub count_cell : i < k → (get_or w (from + i) 0 ≡ none_header → ⊥)
      → n + heads (drop i (take k (drop from w))) ≡ heads (take k (drop from w))
      → n + 1 + heads (drop (i + 2) (take k (drop from w))) ≡ heads (take k (drop from w))
  count_cell h e t =
      let a = heads_at_cell (take k (drop from w)) i (rw counted_long h) (λ z. e (sym (counted_at h) ∙ z)) in
      omega arith

  pub count_end : k ≤ i → n + heads (drop i (take k (drop from w))) ≡ heads (take k (drop from w))
      → n ≡ heads (take k (drop from w))
  count_end h t =
      let a = heads_at_end (take k (drop from w)) i (rw counted_long h) in
      omega arith

-- ---- a cell, by its header

prefix_some : (v : Value) → 1 ≤ length (prefix v)
unfolding prefix
prefix_some nothing = omega arith
prefix_some (atom h x) = omega arith
prefix_some (block h vs) = omega arith

module _ (w : List ℕ) (i hp stop : ℕ) where
  some_cell : (v : Value) (rest : List ℕ) → drop i w ≡ prefix v ++ rest → (get_or w i 0 ≡ none_header → ⊥) → T (not (is_nothing v))
  unfolding prefix
  some_cell nothing rest e k = absurd (k (first_at w i none_header rest e))
  some_cell (atom h x) rest e k = tt
  some_cell (block h vs) rest e k = tt

  none_placed : (v : Value) (rest : List ℕ) → T (good v) → drop i w ≡ prefix v ++ rest → get_or w i 0 ≡ none_header
      → (he : List ℕ) → CellPlaced v i hp stop he (i + 1) hp (2 ^ 29) he
  unfolding good prefix placed size
  none_placed nothing rest g e k he =
      record {
        next_is = refl;
        top_is = omega arith;
        word_is = bits_nothing;
        laid = laid_none hp stop he;
      }
  none_placed (atom h x) rest g e k he =
      absurd (let a = atom_header h x g in let b = first_at w i h (x ∷ rest) e in omega arith)
  none_placed (block h vs) rest g e k he =
      absurd
      (let a = (block_header h (count vs) (and_left (block_ok h (count vs)) _ g)).below in
      let b = first_at w i h (count vs ∷ prefixes vs ++ rest) e in
      omega arith)

  atom_size : (v : Value) (rest : List ℕ) → T (good v) → drop i w ≡ prefix v ++ rest → get_or w i 0 < tuple_header
      → size v ≡ 2
  unfolding good prefix size
  atom_size nothing rest g e k = absurd (let b = first_at w i none_header rest e in omega arith)
  atom_size (atom h x) rest g e k = refl
  atom_size (block h vs) rest g e k =
      absurd
      (let a = (block_header h (count vs) (and_left (block_ok h (count vs)) _ g)).least in
      let b = first_at w i h (count vs ∷ prefixes vs ++ rest) e in
      omega arith)

  atom_placed : (v : Value) (rest : List ℕ) → T (good v) → drop i w ≡ prefix v ++ rest → get_or w i 0 < tuple_header
      → (he : List ℕ) → hp + 2 ≤ stop → stop ≤ length he
      → CellPlaced v i hp stop he (i + 2) (hp + 2) (2 ^ 28 + hp)
      (set (set he hp (get_or w i 0)) (hp + 1) (get_or w (i + 1) 0))
  unfolding good prefix placed size
  atom_placed nothing rest g e k he f l = absurd (let b = first_at w i none_header rest e in omega arith)
  atom_placed (atom h x) rest g e k he f l =
      let p = pair_at w i h x rest e in
      record {
        next_is = refl;
        top_is = refl;
        word_is = bits_ref hp;
        laid = rw (p.one, p.two, bits_raw h, bits_raw x) (laid_pair hp stop h x he f (omega arith));
      }
  atom_placed (block h vs) rest g e k he f l =
      absurd
      (let a = (block_header h (count vs) (and_left (block_ok h (count vs)) _ g)).least in
      let b = first_at w i h (count vs ∷ prefixes vs ++ rest) e in
      omega arith)

  -- a block: its fields follow
  block_here : (room : ℕ) (v : Value) (rest : List ℕ) → T (good v) → drop i w ≡ prefix v ++ rest → hp + size v ≤ stop
      → stop < 2 ^ 28 → stop ≤ room → (get_or w i 0 ≡ none_header → ⊥) → tuple_header ≤ get_or w i 0 → BlockHere w i hp stop room
  unfolding good prefix size
  block_here room nothing rest g e f l o n k = absurd (n (first_at w i none_header rest e))
  block_here room (atom h x) rest g e f l o n k =
      absurd (let a = atom_header h x g in let b = first_at w i h (x ∷ rest) e in omega arith)
  block_here room (block h vs) rest g e f l o n k =
      record {
        header = h;
        values = vs;
        rest = rest;
        good = and_right (block_ok h (count vs)) _ g;
        here = e;
        fits = f;
        low = l;
        inside = o;
      }

  block_placed : (room : ℕ) (v : Value) (rest : List ℕ) (g : T (good v)) (e : drop i w ≡ prefix v ++ rest)
      (f : hp + size v ≤ stop) (l : stop < 2 ^ 28) (o : stop ≤ room) (n : get_or w i 0 ≡ none_header → ⊥)
      (k : tuple_header ≤ get_or w i 0) {next top x : ℕ} {he he' : List ℕ}
      → ((b : BlockHere w i hp stop room) → CellPlaced (block b.header b.values) i hp stop he next top x he')
      → CellPlaced v i hp stop he next top x he'
  unfolding good prefix size block_here
  block_placed room nothing rest g e f l o n k d = absurd (n (first_at w i none_header rest e))
  block_placed room (atom h x) rest g e f l o n k d =
      absurd (let a = atom_header h x g in let b = first_at w i h (x ∷ rest) e in omega arith)
  block_placed room (block h vs) rest g e f l o n k d = d (block_here room (block h vs) rest g e f l o n k)

-- ---- the same, from the records alone

module _ {w : List ℕ} {i hp stop room : ℕ} (k : CellHere w i hp stop room) where
  long : length w - i ≡ length (prefix k.value) + length k.rest
  long =
      sym (length-drop i w)
      ∙ ap (λ (x : List ℕ). length x) k.here
      ∙ length-append (prefix k.value) k.rest

  pub cell_inside : i < length w
  cell_inside = let a = long in let b = prefix_some k.value in omega arith

  pub cell_inside_2 : (get_or w i 0 ≡ none_header → ⊥) → i + 2 ≤ length w
  cell_inside_2 n =
      let a = long in
      let b = prefix_least k.value (some_cell w i hp stop k.value k.rest k.here n) in
      omega arith

  pub cell_none : get_or w i 0 ≡ none_header → (he : List ℕ) → CellPlaced k.value i hp stop he (i + 1) hp (2 ^ 29) he
  cell_none e he = none_placed w i hp stop k.value k.rest k.good k.here e he

  pub cell_two : get_or w i 0 < tuple_header → hp + 2 ≤ stop
  cell_two a =
      let b = atom_size w i hp stop k.value k.rest k.good k.here a in let c = k.fits in omega arith

  pub cell_atom : get_or w i 0 < tuple_header → (he : List ℕ) → length he ≡ room
      → CellPlaced k.value i hp stop he (i + 2) (hp + 2) (2 ^ 28 + hp)
      (set (set he hp (get_or w i 0)) (hp + 1) (get_or w (i + 1) 0))
  cell_atom a he e =
      let b = k.inside in
      atom_placed w i hp stop k.value k.rest k.good k.here a he (cell_two a) (omega arith)

  pub cell_block : (get_or w i 0 ≡ none_header → ⊥) → tuple_header ≤ get_or w i 0 → BlockHere w i hp stop room
  cell_block n b =
      block_here w i hp stop room k.value k.rest k.good k.here k.fits k.low k.inside n b

  pub cell_placed : (get_or w i 0 ≡ none_header → ⊥) → tuple_header ≤ get_or w i 0 → {next top x : ℕ} {he he' : List ℕ}
      → ((b : BlockHere w i hp stop room) → CellPlaced (block b.header b.values) i hp stop he next top x he')
      → CellPlaced k.value i hp stop he next top x he'
  cell_placed n b d =
      block_placed w i hp stop room k.value k.rest k.good k.here k.fits k.low k.inside n b d

-- in room that is just the copy's
pub value_placed : {w : List ℕ} {i hp stop room : ℕ} (k : ValueHere w i hp stop room) {next top x : ℕ} {he he' : List ℕ}
    → length he ≡ room → CellPlaced k.cell.value i hp stop he next top x he' → Copied k.cell.value hp he x he'
value_placed {w} {i} {hp} {stop} {room} k {next} {top} {x} {he} {he'} e p =
    let v = k.cell.value in
    let ws = map bits (placed v hp) in
    let n : length ws ≡ size v = length-map (placed v hp) bits ∙ length_placed v hp in
    let z : stop ≡ hp + length ws = k.exact ∙ ap (λ (y : ℕ). hp + y) (sym n) in
    record {
      word_is = p.word_is;
      heap_is = laid_whole hp ws he (let a = k.cell.inside in omega arith) (rw z at p.laid);
    }

-- ---- a block's fields, one after the other

-- k of the values vs are placed from hp on, and the references to them wait from `base` on: i and top are where the others
-- begin, on the wire and on the heap.
pub record Filling (w : List ℕ) (vs : Values) (from hp base stop : ℕ) (he : List ℕ) (k i top : ℕ) (he' : List ℕ) : Type 0 where
  pub others : Values
  pub rest : List ℕ
  pub done : List Word
  pub refs : List Word
  pub good : T (goods others)
  pub here : drop i w ≡ prefixes others ++ rest
  pub many : k + count others ≡ count vs
  pub next_is : i + length (prefixes others) ≡ from + length (prefixes vs)
  pub top_is : top + sizes others ≡ hp + sizes vs
  pub done_is : done ++ placed_all others top ≡ placed_all vs hp
  pub refs_is : refs ++ refers_all others top ≡ refers_all vs hp
  pub done_long : hp + length done ≡ top
  pub refs_long : length refs ≡ k
  pub laid : Laid hp stop (map bits done) he he'
  pub waiting : take k (drop base he') ≡ map bits refs

module _ (w : List ℕ) (from hp base stop : ℕ) (he : List ℕ) (k i top : ℕ) (he' : List ℕ) where
  -- the next field, where there is one
  next_here : (vs others : Values) (rest : List ℕ) → T (goods others) → drop i w ≡ prefixes others ++ rest
      → k + count others ≡ count vs → top + sizes others ≤ base → base < 2 ^ 28 → (room : ℕ) → base ≤ room → k < count vs
      → CellHere w i top base room
  unfolding good prefix size
  next_here vs end rest g e m f l room o h = absurd (omega arith)
  next_here vs (more v us) rest g e m f l room o h =
      record {
        value = v;
        rest = prefixes us ++ rest;
        good = and_left (good v) _ g;
        here = e ∙ append_assoc (prefix v) (prefixes us) rest;
        fits = omega arith;
        low = l;
        inside = o;
      }

  -- and what stands after it
  next_filled : (vs others : Values) (rest : List ℕ) (g : T (goods others)) (e : drop i w ≡ prefixes others ++ rest)
      (m : k + count others ≡ count vs) (f : top + sizes others ≤ base) (l : base < 2 ^ 28) (room : ℕ) (o : base ≤ room)
      (h : k < count vs) (done refs : List Word)
      → i + length (prefixes others) ≡ from + length (prefixes vs) → top + sizes others ≡ hp + sizes vs
      → done ++ placed_all others top ≡ placed_all vs hp → refs ++ refers_all others top ≡ refers_all vs hp
      → hp + length done ≡ top → length refs ≡ k → Laid hp stop (map bits done) he he'
      → take k (drop base he') ≡ map bits refs → base + count vs ≡ stop → stop ≤ length he'
      → {next top₁ x : ℕ} {he₁ : List ℕ} → length he₁ ≡ length he'
      → ((c : CellHere w i top base room) → CellPlaced c.value i top base he' next top₁ x he₁)
      → Filling w vs from hp base stop he (k + 1) next top₁ (set he₁ (base + k) x)
  unfolding good prefix placed size next_here
  next_filled vs end rest g e m f l room o h done refs ni ti di ri dl rl la wa be en same d = absurd (omega arith)
  next_filled vs (more v us) rest g e m f l room o h done refs ni ti di ri dl rl la wa be en {next} {top₁} {x} {he₁} same d =
      let p : CellPlaced v i top base he' next top₁ x he₁ =
      d (next_here vs (more v us) rest g e m f l room o h) in
      let a = map bits (placed v top) in
      let s : length (placed v top) ≡ size v = length_placed v top in
      let sa : length a ≡ size v = length-map (placed v top) bits ∙ s in
      let sd : length (map bits done) ≡ length done = length-map done bits in
      let t : top + length (placed v top) ≡ top₁ = omega (arith, p.top_is) in
      let b = bits_append done (placed v top) in
      let c = length-append done (placed v top) in
      let both : Laid hp stop (map bits (done ++ placed v top)) he he₁ =
      rw b (laid_then (omega arith) la (laid_wide (omega arith) p.laid)) in
      let lb : length (map bits (done ++ placed v top)) ≡ length done + size v =
      length-map (done ++ placed v top) bits ∙ omega arith in
      record {
        others = us;
        rest = rest;
        done = done ++ placed v top;
        refs = refs ++ refers v top ∷ [];
        good = and_right (good v) _ g;
        here = rw p.next_is (past w i (prefix v) (prefixes us ++ rest) (e ∙ append_assoc (prefix v) (prefixes us) rest));
        many = omega arith;
        next_is = let z = length-append (prefix v) (prefixes us) in omega (arith, p.next_is);
        top_is = omega (arith, p.top_is);
        done_is = append_assoc done (placed v top) (placed_all us top₁) ∙ rw (← t) di;
        refs_is = append_assoc refs (refers v top ∷ []) (refers_all us top₁) ∙ rw (← t) ri;
        done_long = omega (arith, p.top_is);
        refs_long = length-append refs (refers v top ∷ []) ∙ omega arith;
        laid = laid_set (base + k) x (omega arith) (omega arith) both;
        waiting =
            waits_next base k x he₁ (omega arith)
            ∙ ap (λ (y : List ℕ). take k y ++ x ∷ []) p.laid.above
            ∙ ap (λ (y : List ℕ). y ++ x ∷ []) wa
            ∙ ap (λ (y : ℕ). map bits refs ++ y ∷ []) p.word_is
            ∙ sym (bits_append refs (refers v top ∷ []));
      }

  -- after the last one
  record Full (vs : Values) : Type 0 where
    next_is : i ≡ from + length (prefixes vs)
    top_is : top ≡ hp + sizes vs
    laid : Laid hp stop (map bits (placed_all vs hp)) he he'
    waiting : take k (drop base he') ≡ map bits (refers_all vs hp)
    long : length (refers_all vs hp) ≡ k

  last_filled : (vs others : Values) (done refs : List Word) → k + count others ≡ count vs
      → i + length (prefixes others) ≡ from + length (prefixes vs) → top + sizes others ≡ hp + sizes vs
      → done ++ placed_all others top ≡ placed_all vs hp → refs ++ refers_all others top ≡ refers_all vs hp
      → length refs ≡ k → Laid hp stop (map bits done) he he' → take k (drop base he') ≡ map bits refs → k ≡ count vs
      → Full vs
  unfolding prefix placed size
  last_filled vs end done refs m ni ti di ri rl la wa h =
      record {
        next_is = omega arith;
        top_is = omega arith;
        laid = rw (← di, append-nil done) la;
        waiting = rw (← ri, append-nil refs) wa;
        long = rw (← ri, append-nil refs) rl;
      }
  last_filled vs (more v us) done refs m ni ti di ri rl la wa h = absurd (omega arith)

-- ---- the same, from the records alone

module _ {w : List ℕ} {vs : Values} {from hp base stop : ℕ} {he : List ℕ} {k i top : ℕ} {he' : List ℕ}
    (f : Filling w vs from hp base stop he k i top he') where
  pub fill_top : top ≤ hp + sizes vs
  fill_top = let a = f.top_is in omega arith

  module _ (room : ℕ) (fits : hp + sizes vs ≤ base) (low : base < 2 ^ 28) (inside : base ≤ room) (h : k < count vs) where
    abbrev fit : top + sizes f.others ≤ base
    fit = let a = f.top_is in omega arith

    pub fill_cell : CellHere w i top base room
    fill_cell =
        next_here w from hp base stop he k i top he' vs f.others f.rest f.good f.here f.many fit low room inside h

    pub fill_next : base + count vs ≡ stop → stop ≤ length he' → {next top₁ x : ℕ} {he₁ : List ℕ} → length he₁ ≡ length he'
        → ((c : CellHere w i top base room) → CellPlaced c.value i top base he' next top₁ x he₁)
        → Filling w vs from hp base stop he (k + 1) next top₁ (set he₁ (base + k) x)
    fill_next =
        next_filled w from hp base stop he k i top he' vs f.others f.rest f.good f.here f.many fit low room
        inside h f.done f.refs f.next_is f.top_is f.done_is f.refs_is f.done_long f.refs_long
        f.laid f.waiting

  filled : k ≡ count vs → Full w from hp base stop he k i top he' vs
  filled h =
      last_filled w from hp base stop he k i top he' vs f.others f.done f.refs f.many f.next_is f.top_is
      f.done_is f.refs_is f.refs_long f.laid f.waiting h

module _ {w : List ℕ} {from hp stop room : ℕ} (b : BlockHere w from hp stop room) where
  abbrev n : ℕ
  n = count b.values

  here : Pair w from b.header n (prefixes b.values ++ b.rest)
  here = pair_at w from b.header n (prefixes b.values ++ b.rest) b.here

  pub block_inside : from + 2 ≤ length w
  block_inside = let a = here.inside in omega arith

  pub block_many : get_or w (from + 1) 0 ≡ n
  block_many = here.two

  pub fill_none : (base : ℕ) (he : List ℕ) → Filling w b.values (from + 2) hp base stop he 0 (from + 2) hp he
  fill_none base he =
      record {
        others = b.values;
        rest = b.rest;
        done = [];
        refs = [];
        good = b.good;
        here = here.then;
        many = omega arith;
        next_is = refl;
        top_is = refl;
        done_is = refl;
        refs_is = refl;
        done_long = add-zero hp;
        refs_long = refl;
        laid = laid_none hp stop he;
        waiting = refl;
      }

  -- the object's own words, and then the references, which waited
  pub block_done : {base k i top : ℕ} {he he₁ he₂ he₃ : List ℕ} → Filling w b.values (from + 2) hp base stop he k i top he₁
      → k ≡ get_or w (from + 1) 0 → base + n ≡ stop → length he₁ ≡ room
      → he₂ ≡ set (set he₁ top (get_or w from 0)) (top + 1) (get_or w (from + 1) 0)
      → he₃ ≡ sets he₂ (top + 2) (take (get_or w (from + 1) 0) (drop base he₂))
      → CellPlaced (block b.header b.values) from hp stop he i (top + 2 + get_or w (from + 1) 0) (2 ^ 28 + top) he₃
  unfolding prefix placed size
  block_done {base} {k} {i} {top} {he} {he₁} {he₂} {he₃} f m e r s moved =
      let u = filled f (m ∙ block_many) in
      let vs = b.values in
      let h = b.header in
      let fs = map bits (placed_all vs hp) in
      let rs = map bits (refers_all vs hp) in
      let lf : length fs ≡ sizes vs = length-map (placed_all vs hp) bits ∙ length_placed_all vs hp in
      let t : top ≡ hp + sizes vs = u.top_is in
      let fit = b.fits in
      let i₁ = b.inside in
      let p : Laid top stop (h ∷ n ∷ []) he₁ he₂ =
      rw (s, here.one, here.two) (laid_pair top stop h n he₁ (omega arith) (omega arith)) in
      let same : drop base he₂ ≡ drop base he₁ =
      rw s
      (drop-set-lt base (set he₁ top (get_or w from 0)) (top + 1) (get_or w (from + 1) 0) (omega arith)
      ∙ drop-set-lt base he₁ top (get_or w from 0) (omega arith)) in
      let waited : take k (drop base he₂) ≡ rs = ap (λ (z : List ℕ). take k z) same ∙ u.waiting in
      let lr : length rs ≡ n = length-map (refers_all vs hp) bits ∙ u.long ∙ m ∙ block_many in
      let l₂ : length he₂ ≡ room =
      ap (λ (z : List ℕ). length z) s
      ∙ length-set (set he₁ top (get_or w from 0)) (top + 1) (get_or w (from + 1) 0)
      ∙ length-set he₁ top (get_or w from 0)
      ∙ r in
      let q : Laid (top + 2) stop rs he₂ he₃ =
      rw (moved, ← m, waited) (laid_sets (top + 2) rs he₂ (omega arith) stop (omega arith)) in
      let lg : length (fs ++ h ∷ n ∷ []) ≡ sizes vs + 2 = length-append fs (h ∷ n ∷ []) ∙ omega arith in
      let all : Laid hp stop (fs ++ h ∷ n ∷ [] ++ rs) he he₃ =
      laid_then (omega arith) (laid_then (omega arith) u.laid p) q in
      let words : fs ++ (h ∷ n ∷ []) ++ rs ≡ map bits (placed_all vs hp ++ raw h ∷ raw n ∷ refers_all vs hp) =
      append_assoc fs (h ∷ n ∷ []) rs
      ∙ rw (bits_append (placed_all vs hp) (raw h ∷ raw n ∷ refers_all vs hp), bits_raw h, bits_raw n) refl in
      let lp : length (placed_all vs hp) ≡ sizes vs = length_placed_all vs hp in
      record {
        next_is = u.next_is ∙ omega arith;
        top_is = omega (arith, block_many);
        word_is = ap (λ (y : ℕ). 2 ^ 28 + y) (t ∙ ap (λ (y : ℕ). hp + y) (sym lp)) ∙ bits_ref (hp + length (placed_all vs hp));
        laid = rw (← words) all;
      }

-- ---- the value on a wire

-- a wire of those that 7 does not turn away
pub wire_fits : (P : Program) (w : List ℕ) (i : ℕ) → WiresFit P w → i < P.inputs + P.outputs → WireFits w i
wire_fits P w i f h = record { wires = P.inputs + P.outputs; long = f.long; inside = h; ok = f.each i h }

-- what stands on the wire a, of k words
pub record Input (w : List ℕ) (a k : ℕ) : Type 0 where
  pub value : Value
  pub good : T (good value)
  pub reads : first (row (wire_words w a)) ≡ value
  pub words : take k (drop (65 * a + 1) w) ≡ prefix value
  pub few : k ≤ 64
  pub long : length (prefix value) ≡ k
  pub inside : 65 * a + 1 + k ≤ length w

pub input_at : {w : List ℕ} {a : ℕ} → WireFits w a → (get_or w (65 * a) 0 ≡ 0 → ⊥) → Input w a (get_or w (65 * a) 0)
unfolding wire_count wire_words is_empty
input_at {w} {a} f z =
    let n = f.wires in
    let l : length w ≡ 65 * n = f.long in
    let i : a < n = f.inside in
    let u = wire_full w n a l i f.ok (not_T (eqb (get_or w (65 * a) 0) 0) (λ t. z (eqb→eq (get_or w (65 * a) 0) 0 t))) in
    let m : get_or w (65 * a) 0 ≤ 64 = u.most in
    let o = one_value_lem (wire_words w a) u.one in
    record {
      value = o.value;
      good = o.good;
      reads = o.reads;
      words = o.is;
      few = m;
      long = ap (λ (x : List ℕ). length x) (sym o.is) ∙ u.long;
      inside = omega arith;
    }

module _ {w : List ℕ} {a k : ℕ} (u : Input w a k) where
  -- the pass counts the words of the copy
  pub input_size : (q : ℕ) → q + 1 ≡ k + heads (take k (drop (65 * a + 1) w)) → q ≡ size u.value
  input_size q e =
      let s = size_heads u.value u.good in
      let x : q + 1 ≡ k + heads (prefix u.value) = rw u.words at e in
      omega (arith, u.long)

  pub input_few : size u.value ≤ 95
  input_few = size_most u.value (rw u.long u.few)

  pub input_here : (room hp stop : ℕ) → stop ≡ hp + size u.value → stop < 2 ^ 28 → stop ≤ room
      → ValueHere w (65 * a + 1) hp stop room
  input_here room hp stop e l o =
      record {
        cell = record {
          value = u.value;
          rest = drop k (drop (65 * a + 1) w);
          good = u.good;
          here = sym (take-append-drop k (drop (65 * a + 1) w)) ∙ ap (λ (x : List ℕ). x ++ drop k (drop (65 * a + 1) w)) u.words;
          fits = omega arith;
          low = l;
          inside = o;
        };
        exact = e;
      }

  pub input_placed : {room hp stop x : ℕ} {he he' : List ℕ} → stop ≡ hp + size u.value → stop < 2 ^ 28 → stop ≤ room
      → ((c : ValueHere w (65 * a + 1) hp stop room) → Copied c.cell.value hp he x he')
      → Copied u.value hp he x he'
  unfolding input_here
  input_placed {room} {hp} {stop} f l o p = p (input_here room hp stop f l o)

-- ---- what CopyInput leads to

module _ {r : Regs} (f : Fit r) {st he : List ℕ} {ws hs : List Word} (h : Holds r st he ws hs)
    (wi or : List ℕ) (a : ℕ) where
  abbrev s : State
  s = core r ws hs wi or false

  pub copy_empty : (cost : ℕ) {b : Buffers} {q : Turn} {lim : Limits} → get_or wi (65 * a) 0 ≡ 0 → q ≡ halt r (ending.Fault 8)
      → Turned lim r b (priced cost (CopyInput a) s) q b
  unfolding CopyInput is_empty wire_count
  copy_empty cost {b} {q} z e =
      stops cost _ r b s (fault 8)
      (need_no (not (eqb (get_or wi (65 * a) 0) 0)) 8 _
      (λ t. T_not (eqb (get_or wi (65 * a) 0) 0) t (eqb_of (get_or wi (65 * a) 0) 0 z)))
      e

  module _ {k : ℕ} (u : Input wi a k) where
    pub copy_leads : (cost n : ℕ) → (get_or wi (65 * a) 0 ≡ 0 → ⊥) → n ≡ size u.value
        → Leads cost (priced cost (CopyInput a) s) (built r (r.sp + 1) (r.hp + n)) (ws ++ refers u.value (length hs) ∷ [])
        (hs ++ placed u.value (length hs)) wi or
    unfolding CopyInput is_empty wire_count
    copy_leads cost n z e =
        lead_grown cost s (built r (r.sp + 1) (r.hp + n)) cost 0 (placed u.value (length hs))
        (need_yes (not (eqb (get_or wi (65 * a) 0) 0)) 8 _
        (not_T (eqb (get_or wi (65 * a) 0) 0) (λ t. z (eqb→eq (get_or wi (65 * a) 0) 0 t)))
        ∙ ap (λ (v : Value). goes 0 (leaving s (next s.regs) (ws ++ refers v (length hs) ∷ []) (placed v (length hs)))) u.reads)
        (omega arith)
        (ap (λ (x : ℕ). x + 1) h.sp ∙ sym (length-append ws (refers u.value (length hs) ∷ [])))
        (rw (e, h.hp, length_placed u.value (length hs)) refl)
        (h.lp
        ∙ ap (λ (x : ℕ). r.fp + x)
        (sym (locals_append r.fp ws (refers u.value (length hs) ∷ []) (omega (arith, h.sp, f.fp, f.lp)))))

    module _ {x : ℕ} {he' : List ℕ} (p : Copied u.value r.hp he x he') where
      pub copy_heap : r.hp + size u.value ≤ length he → Bears he' (hs ++ placed u.value (length hs))
      copy_heap l =
          rw (p.heap_is, h.hp)
          (bears_sets he hs (placed u.value (length hs)) h.heap
          (rw (length_placed u.value (length hs), ← h.hp) l))

      pub copy_stack : r.sp < length st → Bears (set st r.sp x) (ws ++ refers u.value (length hs) ∷ [])
      copy_stack l =
          bears_push st ws (refers u.value (length hs)) r.sp x h.stack h.sp
          (p.word_is ∙ ap (λ (q : ℕ). bits (refers u.value q)) h.hp) l
