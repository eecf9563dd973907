-- Instructions 7 to 14: the stack.
use mathlib.Core.Path.{◌≡◌, sym, ap, ◌∙◌}
use mathlib.Core.Bool.{◌||◌}
use mathlib.Core.List.{[]}
use Prim.Native.Nat.{ℕ, ◌+◌, ◌-◌, ◌≤◌, ◌<◌}
use native.Mathlib.Omega.{arith}
use lib.Dec.{T, leb}
use lib.ListN.{length, get_or, set, replicate, length-set}
use Rattle.hume.specs.Words.{Word, null, is_null, is_value}
use Rattle.hume.specs.Image.{Program}
use Rattle.hume.specs.State.{State, locals, values, below, without}
use Rattle.hume.specs.Instructions.{Push, Pop, Slide, Copy, CopyArg, argument, has_argument, CreateFrame, has_local, PushVar, MakeVar}
use Rattle.laws.proofs.Words.{null_is, ValueWord, refers, nothing, value_word}
use Rattle.laws.proofs.Tests.{OneOf, one, other, or_cases}
use Rattle.reach.specs.Sound.{Plain, Frames, Sound}
use Rattle.reach.proofs.Deeds.{each_need}
use Rattle.reach.proofs.Lists.{through_nulls}
use Rattle.reach.proofs.Plain.{null_plain}
use Rattle.reach.proofs.Frames.{frames_top, locals_set, word_at, word_free, frames_push, frames_cut, frames_put, frames_make}
use Rattle.reach.proofs.Keeps.{Keeps, grown_frames, leaves_sound, stacks_keeps, values_le, popped, value_plain}

-- null, a reference or None is no frame link
no_link : (w : Word) → T (is_null w || is_value w) → w.type ≡ 6 → ⊥
no_link w t e = by (or_cases (is_null w) (is_value w) t)
  where
    six : (v : Word) → w ≡ v → v.type ≡ 6
    six v q = ap (λ (x : Word). x.type) (sym q) ∙ e

    with_value : ValueWord w → ⊥
    with_value (refers q) = let k : ◌≡◌ {A = ℕ} 1 6 = six _ q in omega arith
    with_value (nothing q) = let k : ◌≡◌ {A = ℕ} 2 6 = six _ q in omega arith

    by : OneOf (is_null w) (is_value w) → ⊥
    by (one n) = let k : ◌≡◌ {A = ℕ} 0 6 = six null (null_is w n) in omega arith
    by (other v) = with_value (value_word w v)

module _ (P : Program) (s : State) (ok : Sound P s) (next : s.regs.pc + 1 < P.size) where
  -- 7 Push
  pub Push-keeps : (a : ℕ) → Keeps P s (Push a s)
  unfolding Push
  Push-keeps a =
      stacks_keeps P s ok _ next
      (frames_push P s.heap s.stack s.regs.fp ok.frames (replicate a null)
      (through_nulls (Plain P s.heap) (null_plain P s.heap) a))

  -- 8 Pop
  pub Pop-keeps : (a : ℕ) → Keeps P s (Pop a s)
  unfolding Pop
  Pop-keeps a = each_need _ (leb a (values s)) 1 _ λ v. stacks_keeps P s ok _ next (popped P s ok a v)

  -- 9 Slide
  pub Slide-keeps : (a : ℕ) → Keeps P s (Slide a s)
  unfolding Slide
  Slide-keeps a =
      each_need _ (leb (a + 1) (values s)) 1 _ λ v.
      stacks_keeps P s ok _ next
      (frames_top P s.heap (without (a + 1) s.stack) s.regs.fp (popped P s ok (a + 1) v) (below s.stack 0)
      (value_plain P s ok (a + 1) v 0 (omega arith)))

  -- 10 Copy
  pub Copy-keeps : (a : ℕ) → Keeps P s (Copy a s)
  unfolding Copy
  Copy-keeps a =
      each_need _ (leb (a + 1) (values s)) 1 _ λ v.
      stacks_keeps P s ok _ next
      (frames_top P s.heap s.stack s.regs.fp ok.frames (below s.stack a)
      (value_plain P s ok (a + 1) v a (omega arith)))

  -- 11 CopyArg
  pub CopyArg-keeps : (a : ℕ) → Keeps P s (CopyArg a s)
  unfolding CopyArg argument
  CopyArg-keeps a =
      each_need _ (has_argument s a) 3 _ λ h.
      each_need _ (is_null (argument s a) || is_value (argument s a)) 2 _ λ t.
      stacks_keeps P s ok _ next
      (frames_top P s.heap s.stack s.regs.fp ok.frames (argument s a)
      (word_free P s.heap s.stack s.regs.fp ok.frames (s.regs.fp - (5 + a)) (no_link (argument s a) t)))

  -- 12 CreateFrame
  pub CreateFrame-keeps : (a : ℕ) → a < 256 → Keeps P s (CreateFrame a s)
  unfolding CreateFrame
  CreateFrame-keeps a k =
      each_need _ (leb 3 (values s)) 4 _ λ v.
      leaves_sound P s ok _ _ [] next ok.rs ok.rp
      (grown_frames P s ok [] _ _
      (frames_make P s.heap s.stack s.regs.fp ok.frames a k (values_le P s ok 3 v)))

  -- 13 PushVar
  pub PushVar-keeps : (a : ℕ) → Keeps P s (PushVar a s)
  unfolding PushVar
  PushVar-keeps a =
      each_need _ (has_local s a) 3 _ λ h.
      stacks_keeps P s ok _ next
      (frames_top P s.heap s.stack s.regs.fp ok.frames (get_or s.stack (s.regs.fp + a) null)
      (word_at P s.heap s.stack s.regs.fp ok.frames (s.regs.fp + a) (omega arith)))

  -- 14 MakeVar
  pub MakeVar-keeps : (a : ℕ) → Keeps P s (MakeVar a s)
  unfolding MakeVar without
  MakeVar-keeps a =
      each_need _ (leb 1 (values s)) 1 _ λ v.
      each_need _ (has_local s a) 3 _ λ h.
      let fp = s.regs.fp in
      let w = below s.stack 0 in
      let new = set s.stack (fp + a) w in
      let n : fp + locals fp s.stack + 1 ≤ length s.stack = values_le P s ok 1 v in
      let e : locals fp new ≡ locals fp s.stack = locals_set fp s.stack (fp + a) w (omega arith) in
      let l : length new ≡ length s.stack = length-set s.stack (fp + a) w in
      let f : Frames P s.heap new fp =
      frames_put P s.heap s.stack fp ok.frames (fp + a) w (omega arith)
      (value_plain P s ok 1 v 0 (omega arith)) in
      stacks_keeps P s ok _ next (frames_cut P s.heap new fp f (length new - 1) (omega arith))
