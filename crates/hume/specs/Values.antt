-- Document 01, "Lent besides the image": a value and how a wire writes it; "The instructions": how a copy places it on the
-- heap, and how what a heap word stands for is spread out in prefix form.
use Rattle.std.specs.Prelude.{Bool, true, false, not, ◌&&◌, ◌||◌, List, [], ◌∷◌, ◌++◌, ℕ, zero, suc, ◌+◌, ◌-◌, ◌*◌, ◌/◌, ◌%◌, ◌^◌, leb, ltb, eqb, length, get_or, take, drop, replicate}
use Rattle.hume.specs.Tests.{all, same}
use Rattle.hume.specs.Words.{Word, none, ref, raw, bits, is_ref, bool_header, int_header, float_header, tuple_header, none_header}

-- ---- a value

-- A cell and its fields: None; a Bool, Int or Float with its header and payload; a Tuple, Constr or Exn with its header
-- and fields. "a field is again a cell".
mutual
  pub data Value : Type 0 where
    nothing : Value
    atom : ℕ → ℕ → Value
    block : ℕ → Values → Value

  pub data Values : Type 0 where
    end : Values
    more : Value → Values → Values

abbrev pub count : Values → ℕ
count end = 0
count (more v vs) = suc (count vs)

-- "1 Bool (0 or 1), 2 Int, 3 Float"; "A Float that is a NaN is 7FC00000"
unfoldable pub atom_ok : ℕ → ℕ → Bool
atom_ok h x =
    (eqb h bool_header && ltb x 2)
    || (eqb h int_header || (eqb h float_header && (leb (x % 2 ^ 31) 0x7F800000 || eqb x 0x7FC00000)))

-- "4 Tuple, 5 Constr, 6 Exn (size 1)"; "Sizes 0..255. Only Constr and Exn have a tag."
unfoldable pub block_ok : ℕ → ℕ → Bool
block_ok h n = ((eqb h tuple_header || eqb (h / 65536) 5) && leb n 255) || (eqb (h / 65536) 6 && eqb n 1)

unfoldable mutual
  pub good : Value → Bool
  good nothing = true
  good (atom h x) = atom_ok h x
  good (block h vs) = block_ok h (count vs) && goods vs

  pub goods : Values → Bool
  goods end = true
  goods (more v vs) = good v && goods vs

-- "in prefix form: header, then payload; Tuple, Constr and Exn write header, size, then each field in full"; "None (header only)"
unfoldable mutual
  pub prefix : Value → List ℕ
  prefix nothing = none_header ∷ []
  prefix (atom h x) = h ∷ x ∷ []
  prefix (block h vs) = h ∷ count vs ∷ prefixes vs

  pub prefixes : Values → List ℕ
  prefixes end = []
  prefixes (more v vs) = prefix v ++ prefixes vs

-- ---- reading words back

abbrev pub front : ℕ → Values → Values
front zero vs = end
front (suc n) end = end
front (suc n) (more v vs) = more v (front n vs)

abbrev pub rest : ℕ → Values → Values
rest zero vs = vs
rest (suc n) end = end
rest (suc n) (more v vs) = rest n vs

-- the cell that begins with the header h and the word x, before the values vs, of which a block takes x
abbrev pub cell : Bool → ℕ → ℕ → Values → Values
cell true h x vs = more (atom h x) vs
cell false h x vs = more (block h (front x vs)) (rest x vs)

abbrev pub either : Bool → Values → Values → Values
either true vs us = vs
either false vs us = us

-- The values that words are, one after the other. Total: a block takes as many as there are, so whether the words really
-- are the prefix form of these values is a test of its own.
unfoldable pub row : List ℕ → Values
row [] = end
row (h ∷ []) = either (eqb h none_header) (more nothing end) end
row (h ∷ x ∷ ws) =
    let alone = more nothing (row (x ∷ ws)) in
    let here = cell (ltb h tuple_header) h x (row ws) in
    either (eqb h none_header) alone here

-- the first of them
abbrev pub first : Values → Value
first end = nothing
first (more v vs) = v

abbrev pub is_nothing : Value → Bool
is_nothing nothing = true
is_nothing (atom h x) = false
is_nothing (block h vs) = false

-- "Otherwise the k words are exactly one value"; "None (header only, never a whole wire value)"
unfoldable pub one_value : List ℕ → Bool
one_value ws = not (is_nothing (first (row ws))) && (good (first (row ws)) && same (prefix (first (row ws))) ws)

-- ---- onto the heap: "A copy to the heap places all fields, in order, before their object, so fields always refer lower."

-- the words that a copy places from the heap place hp on, and the word that refers to it
unfoldable mutual
  pub placed : Value → ℕ → List Word
  placed nothing hp = []
  placed (atom h x) hp = raw h ∷ raw x ∷ []
  placed (block h vs) hp = placed_all vs hp ++ raw h ∷ raw (count vs) ∷ refers_all vs hp

  pub refers : Value → ℕ → Word
  refers nothing hp = none
  refers (atom h x) hp = ref hp
  refers (block h vs) hp = ref (hp + length (placed_all vs hp))

  pub placed_all : Values → ℕ → List Word
  placed_all end hp = []
  placed_all (more v vs) hp = placed v hp ++ placed_all vs (hp + length (placed v hp))

  pub refers_all : Values → ℕ → List Word
  refers_all end hp = []
  refers_all (more v vs) hp = refers v hp ∷ refers_all vs (hp + length (placed v hp))

-- ---- from the heap: "A value copied to a wire is spread out in prefix form."

-- n fields from the heap place q on, each in full, by f
unfoldable pub fields_by : (Word → List ℕ) → List Word → ℕ → ℕ → List ℕ
fields_by f hs q zero = []
fields_by f hs q (suc n) = f (get_or hs q none) ++ fields_by f hs (suc q) n

-- the rest of a cell with the header h at the place p: a payload, or a size and the fields
unfoldable pub body_by : Bool → (Word → List ℕ) → List Word → ℕ → List ℕ
body_by true f hs p = bits (get_or hs (p + 1) none) ∷ []
body_by false f hs p = bits (get_or hs (p + 1) none) ∷ fields_by f hs (p + 2) (bits (get_or hs (p + 1) none))

-- a word: None is its header; a reference is the cell that it refers to
unfoldable pub word_by : Bool → (Word → List ℕ) → List Word → ℕ → List ℕ
word_by true f hs p = bits (get_or hs p none) ∷ body_by (ltb (bits (get_or hs p none)) tuple_header) f hs p
word_by false f hs p = none_header ∷ []

-- The word w with at most d levels below it followed. A field refers lower than its object, so one level more than the
-- place that w refers to is enough: `spread`.
unfoldable pub spread_to : ℕ → List Word → Word → List ℕ
spread_to zero hs w = none_header ∷ []
spread_to (suc d) hs w = word_by (is_ref w) (spread_to d hs) hs w.payload

unfoldable pub spread : List Word → Word → List ℕ
spread hs w = spread_to (suc w.payload) hs w

-- ---- wires: "65 words each, inputs first"; "A wire is a count k (0..64), k words, then zeros. k = 0 means empty."

unfoldable pub wire_count : List ℕ → ℕ → ℕ
wire_count w i = get_or w (65 * i) 0

unfoldable pub wire_words : List ℕ → ℕ → List ℕ
wire_words w i = take (wire_count w i) (drop (65 * i + 1) w)

unfoldable pub is_empty : List ℕ → ℕ → Bool
is_empty w i = eqb (wire_count w i) 0

-- the words ws on the wire i
unfoldable pub set_wire : List ℕ → ℕ → List ℕ → List ℕ
set_wire w i ws = take (65 * i) w ++ (length ws ∷ ws ++ replicate (64 - length ws) 0) ++ drop (65 * i + 65) w

unfoldable pub wire_ok : List ℕ → ℕ → Bool
wire_ok w i =
    leb (wire_count w i) 64
    && (all (λ x. eqb x 0) (take (64 - wire_count w i) (drop (65 * i + 1 + wire_count w i) w))
    && (eqb (wire_count w i) 0 || one_value (wire_words w i)))
