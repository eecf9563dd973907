-- A deed that keeps soundness, the shapes of effects that do, and what the tests say of the stack.
use mathlib.Core.Path.{◌≡◌, refl, sym, ap, ◌∙◌}
use mathlib.Core.List.{List, [], ◌∷◌, ◌++◌}
use Prim.Native.Nat.{ℕ, zero, suc, ◌+◌, ◌-◌, ◌≤◌, ◌<◌}
use native.Mathlib.Nat.{add-zero}
use native.Mathlib.Omega.{arith}
use lib.Dec.{T, leb, leb→le}
use lib.ListN.{length, get_or}
use Rattle.hume.specs.Words.{Word, null, ref}
use Rattle.hume.specs.Image.{Program}
use Rattle.hume.specs.State.{Regs, State, sp, hp, locals, lp, values, below, downward, without, Deed, next, leaving, stacks, builds, rewires}
use Rattle.hume.specs.Machine.{becomes}
use Rattle.laws.specs.Whole.{Whole}
use Rattle.laws.specs.Accepted.{WiresFit}
use Rattle.laws.proofs.Objects.{whole_grows}
use Rattle.reach.specs.Sound.{Plain, Frames, Sound}
use Rattle.reach.proofs.Deeds.{Each}
use Rattle.reach.proofs.Frames.{frames_grow, lp_le, word_at, frames_cut, frames_top}

-- The deed ends, or leads to a sound state.
abbrev pub Keeps : Program → State → Deed → Type 0
Keeps P s = Each (λ t f. Sound P (becomes s f))

-- ---- words from the top on down

-- n of them
pub downward_length : (ws : List Word) (i n : ℕ) → length (downward ws i n) ≡ n
unfolding downward
downward_length ws i zero = refl
downward_length ws i (suc n) = ap suc (downward_length ws (i + 1) n)

-- the one at j
pub downward_at : (ws : List Word) (i n j : ℕ) → j < n → get_or (downward ws i n) j null ≡ below ws (i + j)
unfolding downward
downward_at ws i zero j h = absurd (omega arith)
downward_at ws i (suc n) zero h = ap (below ws) (sym (add-zero i))
downward_at ws i (suc n) (suc j) h =
    let e : i + 1 + j ≡ i + suc j = omega arith in
    downward_at ws (i + 1) n j (omega arith) ∙ ap (below ws) e

module _ (P : Program) (s : State) (ok : Sound P s) where
  -- ---- effects

  -- the frames on a heap that has grown
  pub grown_frames : (g ws : List Word) (fp : ℕ) → Frames P s.heap ws fp → Frames P (s.heap ++ g) ws fp
  grown_frames g ws fp f = frames_grow P s.heap (s.heap ++ g) (λ p o. whole_grows g o) ws fp f

  -- registers, stack and heap that fit
  pub leaves_sound : (r : Regs) (ws g : List Word) → r.pc < P.size → r.rs < P.rulesets → r.rp ≤ P.count r.rs
      → Frames P (s.heap ++ g) ws r.fp → Sound P (becomes s (leaving s r ws g))
  leaves_sound r ws g a b c f =
      record { pc = a; rs = b; rp = c; frames = f; order = ok.order; wires = ok.wires }

  -- registers of the same ruleset, and a stack
  pub turns_sound : (r : Regs) (ws : List Word) → r.pc < P.size → r.rs ≡ s.regs.rs → r.rp ≡ s.regs.rp
      → Frames P s.heap ws r.fp → Sound P (becomes s (leaving s r ws []))
  turns_sound r ws a b c f =
      let rs : s.regs.rs < P.rulesets = ok.rs in
      let rp : s.regs.rp ≤ P.count s.regs.rs = ok.rp in
      leaves_sound r ws [] a (rw b rs) (rw (c, b) rp) (grown_frames [] ws r.fp f)

  -- a new stack
  pub stacks_keeps : (ws : List Word) → s.regs.pc + 1 < P.size → Frames P s.heap ws s.regs.fp
      → Keeps P s (stacks s ws)
  stacks_keeps ws h f = turns_sound (next s.regs) ws h refl refl f

  -- a new object
  pub builds_keeps : (cycles : ℕ) (ws g : List Word) → s.regs.pc + 1 < P.size → Frames P s.heap ws s.regs.fp
      → Whole (s.heap ++ g) (hp s) → Keeps P s (builds s cycles ws g)
  builds_keeps cycles ws g h f o =
      leaves_sound (next s.regs) (ws ++ ref (hp s) ∷ []) g h ok.rs ok.rp
      (frames_top P (s.heap ++ g) ws s.regs.fp (grown_frames g ws s.regs.fp f) (ref (hp s))
      (Plain.is_ref (hp s) refl o))

  -- new wires
  pub rewires_keeps : (ws : List Word) (w : List ℕ) → s.regs.pc + 1 < P.size → Frames P s.heap ws s.regs.fp
      → WiresFit P w → Keeps P s (rewires s ws w)
  rewires_keeps ws w h f x =
      record {
        pc = h;
        rs = ok.rs;
        rp = ok.rp;
        frames = grown_frames [] ws s.regs.fp f;
        order = ok.order;
        wires = x;
      }

  -- ---- values

  -- a values are there: so many words stand above lp
  pub values_le : (a : ℕ) → T (leb a (values s)) → s.regs.fp + locals s.regs.fp s.stack + a ≤ sp s
  unfolding values lp
  values_le a t =
      let h : a ≤ sp s - (s.regs.fp + locals s.regs.fp s.stack) = leb→le a (values s) t in
      let l : s.regs.fp + locals s.regs.fp s.stack ≤ sp s =
      lp_le P s.heap s.stack s.regs.fp ok.frames in
      omega arith

  -- the stack without them
  pub popped : (a : ℕ) → T (leb a (values s)) → Frames P s.heap (without a s.stack) s.regs.fp
  unfolding without
  popped a t =
      let h : s.regs.fp + locals s.regs.fp s.stack + a ≤ sp s = values_le a t in
      frames_cut P s.heap s.stack s.regs.fp ok.frames (sp s - a) (omega arith)

  -- each of them is plain
  pub value_plain : (a : ℕ) → T (leb a (values s)) → (i : ℕ) → i < a → Plain P s.heap (below s.stack i)
  unfolding below
  value_plain a t i k =
      let h : s.regs.fp + locals s.regs.fp s.stack + a ≤ sp s = values_le a t in
      word_at P s.heap s.stack s.regs.fp ok.frames (sp s - (i + 1)) (omega arith)
