-- Laws of values: prefix form and back, and how many words each form takes.
use mathlib.Core.Path.{◌≡◌, refl, sym, ap, ◌∙◌}
use mathlib.Core.Bool.{Bool, true, false, not, ◌&&◌, ◌||◌}
use mathlib.Core.List.{List, [], ◌∷◌, ◌++◌, append_assoc, append-nil}
use Prim.Native.Nat.{ℕ, suc, ◌+◌, ◌*◌, ◌/◌, ◌≤◌, ◌<◌}
use native.Mathlib.Omega.{arith}
use borrow.Author.Tests.{ne_eqb, lt-ltb, le-ltb}
use lib.Dec.{T, leb, ltb, eqb, leb→le, eqb→eq}
use lib.ListN.{length, get_or, drop, length-append, drop_of_length-le}
use lib.Seq.{drop-cons, drop-drop}
use Rattle.hume.specs.Tests.{pick}
use Rattle.hume.specs.Words.{raw, none_header, bool_header, int_header, float_header, tuple_header}
use Rattle.hume.specs.Values.{Value, nothing, atom, block, Values, end, more, count, atom_ok, block_ok, good, goods, prefix, prefixes, front, rest, row, first, is_nothing, one_value, placed, placed_all, refers, refers_all}
use Rattle.laws.specs.Sizes.{size, sizes, cells, cells_all, heads}
use Rattle.laws.proofs.Tests.{and_left, and_right, and_both, same_eq, eq_same}

-- ---- headers

or_elim : {X : Type 0} (a b : Bool) → T (a || b) → (T a → X) → (T b → X) → X
or_elim true b t f g = f tt
or_elim false b t f g = g t

-- A Bool, Int or Float has a header below the Tuple's.
pub atom_header : (h x : ℕ) → T (atom_ok h x) → h < tuple_header
unfolding atom_ok
atom_header h x t =
    or_elim (eqb h bool_header && ltb x 2) _ t
    (λ u. let e = eqb→eq h bool_header (and_left (eqb h bool_header) _ u) in omega arith)
    (λ u. or_elim (eqb h int_header) _ u
    (λ v. let e = eqb→eq h int_header v in omega arith)
    (λ v. let e = eqb→eq h float_header (and_left (eqb h float_header) _ v) in omega arith))

-- What the header and the size of a Tuple, Constr or Exn are between.
pub record BlockHeader (h n : ℕ) : Type 0 where
  pub least : tuple_header ≤ h
  pub below : h < none_header
  pub size : n ≤ 255

-- A Tuple, Constr or Exn has its header and its size between those.
pub block_header : (h n : ℕ) → T (block_ok h n) → BlockHeader h n
unfolding block_ok
block_header h n t =
    let kind = eqb h tuple_header || eqb (h / 65536) 5 in
    or_elim (kind && leb n 255) _ t
    (λ u. let k = leb→le n 255 (and_right kind _ u) in
    or_elim (eqb h tuple_header) _ (and_left kind _ u)
    (λ v. let e = eqb→eq h tuple_header v in record { least = omega arith; below = omega arith; size = k })
    (λ v. let e = eqb→eq (h / 65536) 5 v in record { least = omega arith; below = omega arith; size = k }))
    (λ u. let e = eqb→eq (h / 65536) 6 (and_left (eqb (h / 65536) 6) _ u) in
    let k = eqb→eq n 1 (and_right (eqb (h / 65536) 6) _ u) in
    record { least = omega arith; below = omega arith; size = omega arith })

-- ---- words read back

-- the values vs, then the values us
abbrev pub join : Values → Values → Values
join end us = us
join (more v vs) us = more v (join vs us)

front_join : (vs us : Values) → front (count vs) (join vs us) ≡ vs
front_join end us = refl
front_join (more v vs) us = ap (λ (z : Values). more v z) (front_join vs us)

rest_join : (vs us : Values) → rest (count vs) (join vs us) ≡ us
rest_join end us = refl
rest_join (more v vs) us = rest_join vs us

row_nothing : (ws : List ℕ) → row (none_header ∷ ws) ≡ more nothing (row ws)
unfolding row
row_nothing [] = refl
row_nothing (x ∷ ws) = refl

row_atom : (h x : ℕ) (ws : List ℕ) → h < tuple_header → row (h ∷ x ∷ ws) ≡ more (atom h x) (row ws)
unfolding row
row_atom h x ws k = rw (ne_eqb h none_header (λ e. omega arith), lt-ltb h tuple_header k) refl

row_block : (h n : ℕ) (ws : List ℕ) → BlockHeader h n
    → row (h ∷ n ∷ ws) ≡ more (block h (front n (row ws))) (rest n (row ws))
unfolding row
row_block h n ws k =
    rw (ne_eqb h none_header (λ e. omega arith), le-ltb h tuple_header k.least) refl

mutual
  unfolding good prefix

  -- Words that begin with the prefix form of a good value are that value and what the other words are.
  pub row_prefix : (v : Value) (ws : List ℕ) → T (good v) → row (prefix v ++ ws) ≡ more v (row ws)
  row_prefix nothing ws g = row_nothing ws
  row_prefix (atom h x) ws g = row_atom h x ws (atom_header h x g)
  row_prefix (block h vs) ws g =
      let ok = block_header h (count vs) (and_left (block_ok h (count vs)) _ g) in
      let each = row_prefixes vs ws (and_right (block_ok h (count vs)) _ g) in
      row_block h (count vs) (prefixes vs ++ ws) ok
      ∙ ap (λ (z : Values). more (block h (front (count vs) z)) (rest (count vs) z)) each
      ∙ ap (λ (z : Values). more (block h z) (rest (count vs) (join vs (row ws)))) (front_join vs (row ws))
      ∙ ap (λ (z : Values). more (block h vs) z) (rest_join vs (row ws))

  -- And so with several values.
  pub row_prefixes : (vs : Values) (ws : List ℕ) → T (goods vs) → row (prefixes vs ++ ws) ≡ join vs (row ws)
  row_prefixes end ws g = refl
  row_prefixes (more v vs) ws g =
      ap row (append_assoc (prefix v) (prefixes vs) ws)
      ∙ row_prefix v (prefixes vs ++ ws) (and_left (good v) _ g)
      ∙ ap (λ (z : Values). more v z) (row_prefixes vs ws (and_right (good v) _ g))

-- The first value of a good value's prefix form is the value.
pub first_prefix : (v : Value) → T (good v) → first (row (prefix v)) ≡ v
first_prefix v g =
    ap (λ (ws : List ℕ). first (row ws)) (sym (append-nil (prefix v)))
    ∙ ap first (row_prefix v [] g)

-- Two good values with the same prefix form are the same.
pub prefix_injective : (v u : Value) → T (good v) → T (good u) → prefix v ≡ prefix u → v ≡ u
prefix_injective v u g k e =
    sym (first_prefix v g) ∙ ap (λ (ws : List ℕ). first (row ws)) e ∙ first_prefix u k

-- What words that are one value are: the prefix form of a good value other than None.
pub record One (ws : List ℕ) : Type 0 where
  pub value : Value
  pub good : T (good value)
  pub some : T (not (is_nothing value))
  pub is : ws ≡ prefix value
  pub reads : first (row ws) ≡ value

-- Words that pass the test are one value.
pub one_value_lem : (ws : List ℕ) → T (one_value ws) → One ws
unfolding one_value
one_value_lem ws t =
    let v = first (row ws) in
    let k = and_right (not (is_nothing v)) _ t in
    record {
      value = v;
      good = and_left (good v) _ k;
      some = and_left (not (is_nothing v)) _ t;
      is = sym (same_eq (prefix v) ws (and_right (good v) _ k));
      reads = refl;
    }

-- The prefix form of a good value other than None is one value.
pub value_one : (v : Value) → T (good v) → T (not (is_nothing v)) → T (one_value (prefix v))
unfolding one_value
value_one v g k =
    rw (first_prefix v g) (and_both (not (is_nothing v)) _ k (and_both (good v) _ g (eq_same (prefix v))))

-- ---- how many words

-- A copy places one reference for each field.
pub refers_count : (vs : Values) (hp : ℕ) → length (refers_all vs hp) ≡ count vs
unfolding refers
refers_count end hp = refl
refers_count (more v vs) hp = ap suc (refers_count vs (hp + length (placed v hp)))

mutual
  unfolding placed size

  -- How many words a copy places does not depend on where.
  pub length_placed : (v : Value) (hp : ℕ) → length (placed v hp) ≡ size v
  length_placed nothing hp = refl
  length_placed (atom h x) hp = refl
  length_placed (block h vs) hp =
      let e = length-append (placed_all vs hp) (raw h ∷ raw (count vs) ∷ refers_all vs hp) in
      let r = refers_count vs hp in
      let s = length_placed_all vs hp in
      omega arith

  -- So with several values.
  pub length_placed_all : (vs : Values) (hp : ℕ) → length (placed_all vs hp) ≡ sizes vs
  length_placed_all end hp = refl
  length_placed_all (more v vs) hp =
      let e = length-append (placed v hp) (placed_all vs (hp + length (placed v hp))) in
      let s = length_placed v hp in
      let r = length_placed_all vs (hp + length (placed v hp)) in
      omega arith

mutual
  unfolding prefix size cells

  -- A copy places as many words as the wire has, one more for each cell other than None, less the root's field word.
  pub size_cells : (v : Value) → size v + 1 ≡ length (prefix v) + cells v
  size_cells nothing = refl
  size_cells (atom h x) = refl
  size_cells (block h vs) = let e = sizes_cells vs in omega arith

  sizes_cells : (vs : Values) → sizes vs + count vs ≡ length (prefixes vs) + cells_all vs
  sizes_cells end = refl
  sizes_cells (more v vs) =
      let e = length-append (prefix v) (prefixes vs) in
      let s = size_cells v in
      let r = sizes_cells vs in
      omega arith

mutual
  unfolding prefix cells

  -- Each cell other than None takes two words at least.
  pub cells_half : (v : Value) → 2 * cells v ≤ length (prefix v)
  cells_half nothing = omega arith
  cells_half (atom h x) = omega arith
  cells_half (block h vs) = let e = cells_halves vs in omega arith

  cells_halves : (vs : Values) → 2 * cells_all vs ≤ length (prefixes vs)
  cells_halves end = omega arith
  cells_halves (more v vs) =
      let e = length-append (prefix v) (prefixes vs) in
      let s = cells_half v in
      let r = cells_halves vs in
      omega arith

-- A value other than None takes two words at least.
pub prefix_least : (v : Value) → T (not (is_nothing v)) → 2 ≤ length (prefix v)
unfolding prefix
prefix_least nothing t = absurd t
prefix_least (atom h x) t = omega arith
prefix_least (block h vs) t = omega arith

-- A value that fits a wire takes 95 heap words at most.
pub size_most : (v : Value) → length (prefix v) ≤ 64 → size v ≤ 95
size_most v h = let s = size_cells v in let r = cells_half v in omega arith

heads_cell : (h : ℕ) (ws : List ℕ) → (h ≡ none_header → ⊥) → heads (h ∷ ws) ≡ suc (heads (drop 1 ws))
unfolding heads pick
heads_cell h [] k = rw (ne_eqb h none_header k) refl
heads_cell h (x ∷ ws) k = rw (ne_eqb h none_header k) refl

heads_nothing : (ws : List ℕ) → heads (none_header ∷ ws) ≡ heads ws
unfolding heads pick
heads_nothing [] = refl
heads_nothing (x ∷ ws) = refl

mutual
  unfolding good prefix cells

  -- One pass over words counts the cells of the values that they are.
  pub heads_prefix : (v : Value) (ws : List ℕ) → T (good v) → heads (prefix v ++ ws) ≡ cells v + heads ws
  heads_prefix nothing ws g = let e = heads_nothing ws in omega arith
  heads_prefix (atom h x) ws g =
      let k = atom_header h x g in
      let e = heads_cell h (x ∷ ws) (λ e. omega arith) in
      omega arith
  heads_prefix (block h vs) ws g =
      let k = block_header h (count vs) (and_left (block_ok h (count vs)) _ g) in
      let e = heads_cell h (count vs ∷ prefixes vs ++ ws) (λ e. omega arith) in
      let r = heads_prefixes vs ws (and_right (block_ok h (count vs)) _ g) in
      omega arith

  -- So with several values.
  pub heads_prefixes : (vs : Values) (ws : List ℕ) → T (goods vs) → heads (prefixes vs ++ ws) ≡ cells_all vs + heads ws
  heads_prefixes end ws g = omega arith
  heads_prefixes (more v vs) ws g =
      let a = ap heads (append_assoc (prefix v) (prefixes vs) ws) in
      let e = heads_prefix v (prefixes vs ++ ws) (and_left (good v) _ g) in
      let r = heads_prefixes vs ws (and_right (good v) _ g) in
      omega arith

-- The heap words of a value by one pass over its wire words.
pub size_heads : (v : Value) → T (good v) → size v + 1 ≡ length (prefix v) + heads (prefix v)
unfolding heads
size_heads v g =
    let e = size_cells v in
    let a = ap heads (append-nil (prefix v)) in
    let s = heads_prefix v [] g in
    omega arith

-- The pass, place by place: None is one word on,
pub heads_at_none : (ws : List ℕ) (i : ℕ) → i < length ws → get_or ws i 0 ≡ none_header
    → heads (drop i ws) ≡ heads (drop (i + 1) ws)
heads_at_none ws i h e =
    let n : i + 1 ≡ suc i = omega arith in
    rw (drop-cons ws i 0 h, e, n) (heads_nothing (drop (suc i) ws))

-- any other cell is counted and is two words on,
pub heads_at_cell : (ws : List ℕ) (i : ℕ) → i < length ws → (get_or ws i 0 ≡ none_header → ⊥)
    → heads (drop i ws) ≡ suc (heads (drop (i + 2) ws))
heads_at_cell ws i h k =
    let n : suc i + 1 ≡ i + 2 = omega arith in
    rw (drop-cons ws i 0 h)
    (heads_cell (get_or ws i 0) (drop (suc i) ws) k
    ∙ ap (λ (l : List ℕ). suc (heads l)) (rw n at (drop-drop 1 (suc i) ws)))

-- and past the end is nothing.
pub heads_at_end : (ws : List ℕ) (i : ℕ) → length ws ≤ i → heads (drop i ws) ≡ 0
unfolding heads
heads_at_end ws i h = rw (drop_of_length-le ws h) refl
