-- What holds of every state that the machine reaches.
use Rattle.std.specs.Prelude.{◌≡◌, List, ◌∷◌, ◌++◌, ℕ, suc, ◌+◌, ◌≤◌, ◌<◌, length, get_or}
use Rattle.limits.specs.Machine.{Run}
use Rattle.hume.specs.Words.{Word, null, none, ref, ret, rules, static, link}
use Rattle.hume.specs.Image.{Program}
use Rattle.hume.specs.State.{State, sp, hp, locals}
use Rattle.laws.specs.Whole.{Whole}
use Rattle.laws.specs.Sizes.{Small}
use Rattle.laws.specs.Accepted.{OrderFits, WiresFit, Words32}

-- ---- of the unlimited machine

-- What a local or a value may be. A frame link is none of these, so none is ever copied.
pub data Plain (P : Program) (hs : List Word) (w : Word) : Type 0 where
  is_null : w ≡ null → Plain P hs w
  is_ref : (p : ℕ) → w ≡ ref p → Whole hs p → Plain P hs w
  is_none : w ≡ none → Plain P hs w
  is_ret : (p : ℕ) → w ≡ ret p → p < P.size → Plain P hs w
  is_rules : (r k : ℕ) → w ≡ rules r k → r < P.rulesets → k ≤ P.count r → Plain P hs w
  is_static : (p : ℕ) → w ≡ static p → Plain P hs w

-- F holds of each of the words, and so of null, which stands past the last.
pub record Throughout (F : Word → Type 0) (ws : List Word) : Type 0 where
  pub each : (i : ℕ) → F (get_or ws i null)

-- The stack in frames, from the top one down: a frame's words from fp up are locals and values, its link is the word at
-- fp-1, and below that is the stack as it was when the frame was made, with 3 values at least.
pub data Frames (P : Program) (hs : List Word) : List Word → ℕ → Type 0 where
  bottom : (ws : List Word) (fp : ℕ) → fp ≡ 0 → Throughout (Plain P hs) ws → Frames P hs ws fp
  frame : (ws : List Word) (fp : ℕ) (lower upper : List Word) (prev n : ℕ) → ws ≡ lower ++ link prev n ∷ upper
      → fp ≡ suc (length lower) → n < 256 → n ≤ length upper → Throughout (Plain P hs) upper
      → prev + locals prev lower + 3 ≤ length lower → Frames P hs lower prev → Frames P hs ws fp

-- A state that an accepted program may reach.
pub record Sound (P : Program) (s : State) : Type 0 where
  pub pc : s.regs.pc < P.size
  pub rs : s.regs.rs < P.rulesets
  pub rp : s.regs.rp ≤ P.count s.regs.rs
  pub frames : Frames P s.heap s.stack s.regs.fp
  pub order : OrderFits P s.order
  pub wires : WiresFit P s.wires

-- ---- of a run within the caps: 4096 stack words and 16384 heap words

-- A run all of whose words and registers fit their 32 bits.
pub record Ranged (r : Run State) : Type 0 where
  pub sp : sp r.state ≤ 4096
  pub hp : hp r.state ≤ 16384
  pub slp : r.state.regs.slp ≤ 4097
  pub mp : r.state.regs.mp ≤ r.steps
  pub inp : r.state.regs.inp ≤ r.steps
  pub steps : r.steps ≤ r.time
  pub stack : (i : ℕ) → Small (get_or r.state.stack i null)
  pub statics : (i : ℕ) → (get_or r.state.stack i null).type ≡ 5 → (get_or r.state.stack i null).payload ≤ 4097
  pub heap : (i : ℕ) → Small (get_or r.state.heap i null)
  pub wires : Words32 r.state.wires
