-- Copies between a wire and the heap: what stands where one begins, and what it leaves.
use Rattle.std.specs.Prelude.{◌≡◌, Bool, Option, Some, None, MatchOption, Result, Ok, Err, List, ◌∷◌, ◌++◌, map, ℕ, ◌+◌, ◌-◌, ◌*◌, ◌^◌, ◌≤◌, ◌<◌, T, leb, eqb, length, get_or, take, drop}
use Rattle.std.proofs.lemmas.List.Edits.{sets}
use Rattle.hume.specs.Tests.{pick}
use Rattle.hume.specs.Words.{Word, bits, is_none, is_value}
use Rattle.hume.specs.Values.{Value, Values, count, good, goods, prefix, prefixes, placed, refers, spread, wire_ok}
use Rattle.laws.specs.Sizes.{size, sizes, Small}
use Rattle.laws.specs.Whole.{Held}
use Rattle.engine.specs.Turns.{Bears, Smalls}
use Rattle.engine.specs.declared.regs.Regs.{Regs}
use Rattle.engine.specs.declared.Ending.{Ending}
use Rattle.engine.specs.declared.Ending.TheVariants as ending

-- ---- wires

-- the buffer is of whole wires, and the wire i is one that 7 does not turn away
pub record WireFits (w : List ℕ) (i : ℕ) : Type 0 where
  pub wires : ℕ
  pub long : length w ≡ 65 * wires
  pub inside : i < wires
  pub ok : T (wire_ok w i)

-- ---- the outputs, whose words are read from the top down

-- the output k isn't None and its wire is full
pub record Stuck (st : List ℕ) (sp : ℕ) (w : List ℕ) (inputs k : ℕ) : Type 0 where
  pub some : get_or st (sp - (k + 1)) 0 ≡ 2 ^ 29 → ⊥
  pub full : get_or w (65 * (inputs + k)) 0 ≡ 0 → ⊥

-- the first of n outputs that is stuck, if one is
abbrev pub FirstStuck : List ℕ → ℕ → List ℕ → ℕ → ℕ → Option ℕ → Type 0
FirstStuck st sp w inputs n None = (k : ℕ) → k < n → Stuck st sp w inputs k → ⊥
FirstStuck st sp w inputs n (Some r) = (r < n) × ((k : ℕ) → k < r → Stuck st sp w inputs k → ⊥) × Stuck st sp w inputs r

-- ---- from a wire to the heap

-- The words ws stand in an area from the place `at` on, and what was before them and from `end` on is as it was. What lies
-- between is left open.
pub record Laid (at end : ℕ) (ws l l' : List ℕ) : Type 0 where
  pub below : take (at + length ws) l' ≡ take at l ++ ws
  pub above : drop end l' ≡ drop end l

-- A good value's prefix form stands at the index i of the words w, and there is room for a copy from hp to end.
pub record CellHere (w : List ℕ) (i hp end room : ℕ) : Type 0 where
  pub value : Value
  pub rest : List ℕ
  pub good : T (good value)
  pub here : drop i w ≡ prefix value ++ rest
  pub fits : hp + size value ≤ end
  pub low : end < 2 ^ 28
  pub inside : end ≤ room

-- So with a block's: its header, its size and then its fields'.
pub record BlockHere (w : List ℕ) (i hp end room : ℕ) : Type 0 where
  pub header : ℕ
  pub values : Values
  pub rest : List ℕ
  pub good : T (goods values)
  pub here : drop i w ≡ header ∷ count values ∷ prefixes values ++ rest
  pub fits : hp + (sizes values + 2 + count values) ≤ end
  pub low : end < 2 ^ 28
  pub inside : end ≤ room

-- The copy of a cell is made: the next index, the next heap place, the word that refers to it, and the heap.
pub record CellPlaced (v : Value) (i hp end : ℕ) (he : List ℕ) (next top x : ℕ) (he' : List ℕ) : Type 0 where
  pub next_is : next ≡ i + length (prefix v)
  pub top_is : top ≡ hp + size v
  pub word_is : x ≡ bits (refers v hp)
  pub laid : Laid hp end (map bits (placed v hp)) he he'

-- The room is just the copy's, so nothing is left open.
pub record ValueHere (w : List ℕ) (i hp end room : ℕ) : Type 0 where
  pub cell : CellHere w i hp end room
  pub exact : end ≡ hp + size cell.value

pub record Copied (v : Value) (hp : ℕ) (he : List ℕ) (x : ℕ) (he' : List ℕ) : Type 0 where
  pub word_is : x ≡ bits (refers v hp)
  pub heap_is : he' ≡ sets he hp (map bits (placed v hp))

-- ---- from the heap to a wire

-- The heap bears words that hold the word of the bits x.
pub record Readable (he : List ℕ) (x : ℕ) : Type 0 where
  pub words : List Word
  pub word : Word
  pub bears : Bears he words
  pub smalls : Smalls words
  pub small : Small word
  pub held : Held words word
  pub is : x ≡ bits word

-- what the word spreads out to
abbrev pub spreads : {he : List ℕ} {x : ℕ} → Readable he x → List ℕ
spreads k = spread k.words k.word

-- The words ws are spread from the index `at` on if they end at `end` or before: r is the index after them. Of words that don't,
-- some may have been written, none of them at `end` or after.
pub record Spread (ws : List ℕ) (at end : ℕ) (w : List ℕ) (r : Option ℕ) (w' : List ℕ) : Type 0 where
  pub written : List ℕ
  pub inside : at + length written ≤ end
  pub next_is : MatchOption r (end < at + length ws) (λ n. (n ≡ at + length ws) × (n ≤ end))
  pub whole : at + length ws ≤ end → written ≡ ws
  pub wires_is : w' ≡ sets w at written

-- The heap bears words that hold the word of the bits x if that is a reference or None.
pub record Offered (he : List ℕ) (x : ℕ) : Type 0 where
  pub words : List Word
  pub word : Word
  pub bears : Bears he words
  pub smalls : Smalls words
  pub small : Small word
  pub is : x ≡ bits word
  pub held : T (is_value word) → Held words word

-- the room t if the test passes, else the fault k
abbrev pub unless : Bool → ℕ → Result ℕ Ending → Result ℕ Ending
unless b k t = pick b t (Err (ending.Fault k))

-- The room for the word v on a wire with the count c, how many words it takes: "2 wrong kind of word or cell"; "None writes
-- nothing"; "5 Write of a reference to a full wire; 6 value over 64 wire words"
unfoldable pub room_of : List Word → Word → ℕ → Result ℕ Ending
room_of hs v c =
    unless (is_value v) 2
    (pick (is_none v) (Ok 0)
    (unless (eqb c 0) 5
    (unless (leb (length (spread hs v)) 64) 6 (Ok (length (spread hs v))))))

-- the words that are written, none where there is a fault
abbrev pub taken : Result ℕ Ending → ℕ
taken (Ok n) = n
taken (Err e) = 0

-- The value on top of the stack, if there is one, is held by the words that the heap bears.
pub record TopHeld (r : Regs) (st he : List ℕ) : Type 0 where
  pub words : List Word
  pub bears : Bears he words
  pub smalls : Smalls words
  pub long : length words ≡ r.hp
  pub held : (w : Word) → r.lp < r.sp → get_or st (r.sp - 1) 0 ≡ bits w → Small w → T (is_value w) → Held words w
