-- Words within the caps: small ones, whose static links are places of a stack of 4096 words.
use mathlib.Core.Path.{◌≡◌, ap}
use mathlib.Core.List.{List, [], ◌∷◌, ◌++◌}
use Prim.Native.Nat.{ℕ, zero, suc, ◌+◌, ◌-◌, ◌^◌, ◌≤◌, ◌<◌}
use native.Mathlib.Omega.{arith}
use lib.ListN.{length, take}
use Rattle.hume.specs.Words.{Word, word, null, raw}
use Rattle.hume.specs.State.{below, downward, without}
use Rattle.laws.specs.Whole.{Held, none_held, ref_held}
use Rattle.laws.specs.Sizes.{Small}
use Rattle.laws.proofs.Small.{small_null, small_raw}
use Rattle.reach.specs.Sound.{Throughout}
use Rattle.reach.proofs.Lists.{through_nil, through_one, through_cons, through_append, through_take}

-- A word of the stack.
pub record Fine (w : Word) : Type 0 where
  pub small : Small w
  pub static : w.type ≡ 5 → w.payload ≤ 4097

-- each word of a stack
abbrev pub Fines : List Word → Type 0
Fines ws = Throughout Fine ws

-- each word of a heap
abbrev pub Smalls : List Word → Type 0
Smalls ws = Throughout Small ws

-- A word of a type below 16 and a payload of 28 bits.
pub fine_word : (t p : ℕ) → t < 16 → p < 2 ^ 28 → (t ≡ 5 → p ≤ 4097) → Fine (word t p)
fine_word t p h k l = record { small = record { type = h; payload = k }; static = l }

-- Null is one.
pub fine_null : Fine null
fine_null = fine_word 0 0 (omega arith) (omega arith) (omega arith)

-- A small word that the heap holds is no static link.
pub fine_held : (hs : List Word) (w : Word) → Small w → Held hs w → Fine w
fine_held hs w s (none_held e) =
    let t : w.type ≡ 2 = ap (λ (x : Word). x.type) e in
    record { small = s; static = omega arith }
fine_held hs w s (ref_held p e o) =
    let t : w.type ≡ 1 = ap (λ (x : Word). x.type) e in
    record { small = s; static = omega arith }

-- ---- words of a stack

-- one more on top
pub fines_push : (ws : List Word) (w : Word) → Fines ws → Fine w → Fines (ws ++ w ∷ [])
fines_push ws w h k = through_append Fine ws (w ∷ []) h (through_one Fine fine_null w k)

-- the first k of them
pub fines_take : (k : ℕ) (ws : List Word) → Fines ws → Fines (take k ws)
fines_take k ws h = through_take Fine fine_null k ws h

-- all but the upper n
pub fines_without : (n : ℕ) (ws : List Word) → Fines ws → Fines (without n ws)
unfolding without
fines_without n ws h = fines_take (length ws - n) ws h

-- the one i below the top
pub fine_below : (ws : List Word) (i : ℕ) → Fines ws → Fine (below ws i)
unfolding below
fine_below ws i h = h.each (length ws - (i + 1))

-- ---- words of a heap

-- n words from the one i below the top on down
pub downward_small : (ws : List Word) (i n : ℕ) → Fines ws → Smalls (downward ws i n)
unfolding downward
downward_small ws i zero h = through_nil Small small_null
downward_small ws i (suc n) h =
    through_cons Small (below ws i) (downward ws (i + 1) n) (fine_below ws i h).small (downward_small ws (i + 1) n h)

-- a header, a number and what comes after
pub object_small : (h x : ℕ) (ws : List Word) → h < 2 ^ 32 → x < 2 ^ 32 → Smalls ws → Smalls (raw h ∷ raw x ∷ ws)
object_small h x ws k l s =
    through_cons Small (raw h) (raw x ∷ ws) (small_raw h k) (through_cons Small (raw x) ws (small_raw x l) s)

-- nothing
pub smalls_nil : Smalls []
smalls_nil = through_nil Small small_null
