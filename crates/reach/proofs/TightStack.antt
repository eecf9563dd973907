-- Instructions 1 to 14 within the caps: heap objects and the stack.
use mathlib.Core.Path.{refl}
use mathlib.Core.Bool.{Bool, true, false, cond, ◌||◌}
use mathlib.Core.List.{[], ◌∷◌, ◌++◌}
use Prim.Native.Nat.{ℕ, ◌+◌, ◌-◌, ◌*◌, ◌%◌, ◌^◌, ◌≤◌, ◌<◌}
use native.Mathlib.Omega.{arith}
use lib.Dec.{leb, ltb, lit<}
use lib.ListN.{get_or, set, replicate}
use Rattle.hume.specs.Tests.{all}
use Rattle.hume.specs.Words.{null, none, link, raw, is_null, is_value, bool_header, int_header, float_header, tuple_header, constr_header}
use Rattle.hume.specs.Image.{Program}
use Rattle.hume.specs.Numbers.{canonical}
use Rattle.hume.specs.State.{State, sp, locals, values, below, downward, without, stacks, builds}
use Rattle.hume.specs.Instructions.{MkBool, MkInt, MkFloat, MkNone, mk_block, MkTuple, MkCon, Push, Pop, Slide, Copy}
use Rattle.hume.specs.Instructions.{argument, has_argument, CopyArg, CreateFrame, has_local, PushVar, MakeVar}
use Rattle.reach.specs.Sound.{Sound}
use Rattle.reach.proofs.Lists.{through_cons, through_append, through_set, through_nulls}
use Rattle.reach.proofs.Deeds.{Each, each_need}
use Rattle.reach.proofs.Frames.{lp_le}
use Rattle.reach.proofs.Fine.{Fine, fine_word, fine_null, fines_push, fines_without, fine_below, downward_small, object_small, smalls_nil}
use Rattle.reach.proofs.Tight.{Tight, Stays, turns_tight, stacks_tight, builds_tight}

-- a NaN read as 7FC00000 is of 32 bits
canonical_lt : (x : ℕ) → x < 2 ^ 32 → canonical x < 2 ^ 32
unfolding canonical
canonical_lt x h = by (ltb 0x7F800000 (x % 2 ^ 31))
  where
    by : (b : Bool) → cond b 0x7FC00000 x < 2 ^ 32
    by true = lit< tt
    by false = h

module _ (n : ℕ) (s : State) (ok : Tight n s) where
  -- ---- heap objects

  -- a Bool, Int or Float
  atom_tight : (h x : ℕ) → h < 2 ^ 32 → x < 2 ^ 32 → Each (Stays n s ok) (builds s 0 s.stack (raw h ∷ raw x ∷ []))
  atom_tight h x k l = builds_tight n s ok 0 s.stack _ ok.stack (object_small h x [] k l smalls_nil)

  -- 1 MkBool
  pub MkBool-tight : (c : ℕ) → c < 2 → Each (Stays n s ok) (MkBool c s)
  unfolding MkBool
  MkBool-tight c h = atom_tight bool_header c (omega arith) (omega arith)

  -- 2 MkInt
  pub MkInt-tight : (c : ℕ) → c < 2 ^ 32 → Each (Stays n s ok) (MkInt c s)
  unfolding MkInt
  MkInt-tight c h = atom_tight int_header c (omega arith) h

  -- 3 MkFloat
  pub MkFloat-tight : (c : ℕ) → c < 2 ^ 32 → Each (Stays n s ok) (MkFloat c s)
  unfolding MkFloat
  MkFloat-tight c h = atom_tight float_header (canonical c) (omega arith) (canonical_lt c h)

  -- 4 MkNone
  pub MkNone-tight : Each (Stays n s ok) (MkNone s)
  unfolding MkNone
  MkNone-tight =
      stacks_tight n s ok _
      (fines_push s.stack none ok.stack (fine_word 2 0 (omega arith) (omega arith) (omega arith)))

  block_tight : (h a : ℕ) → h < 2 ^ 32 → a < 2 ^ 32 → Each (Stays n s ok) (mk_block h a s)
  unfolding mk_block
  block_tight h a k l =
      each_need _ (leb a (values s)) 1 _ λ v.
      each_need _ (all is_value (downward s.stack 0 a)) 2 _ λ t.
      builds_tight n s ok 0 (without a s.stack) _ (fines_without a s.stack ok.stack)
      (object_small h a (downward s.stack 0 a) k l (downward_small s.stack 0 a ok.stack))

  -- 5 MkTuple
  pub MkTuple-tight : (a : ℕ) → a < 256 → Each (Stays n s ok) (MkTuple a s)
  unfolding MkTuple
  MkTuple-tight a h = block_tight tuple_header a (omega arith) (omega arith)

  -- 6 MkCon
  pub MkCon-tight : (a b : ℕ) → a < 256 → b < 65536 → Each (Stays n s ok) (MkCon a b s)
  unfolding MkCon
  MkCon-tight a b h k = block_tight (constr_header b) a (omega arith) (omega arith)

  -- ---- the stack

  -- 7 Push
  pub Push-tight : (a : ℕ) → Each (Stays n s ok) (Push a s)
  unfolding Push
  Push-tight a =
      stacks_tight n s ok _
      (through_append Fine s.stack (replicate a null) ok.stack (through_nulls Fine fine_null a))

  -- 8 Pop
  pub Pop-tight : (a : ℕ) → Each (Stays n s ok) (Pop a s)
  unfolding Pop
  Pop-tight a = each_need _ (leb a (values s)) 1 _ λ v. stacks_tight n s ok _ (fines_without a s.stack ok.stack)

  -- 9 Slide
  pub Slide-tight : (a : ℕ) → Each (Stays n s ok) (Slide a s)
  unfolding Slide
  Slide-tight a =
      each_need _ (leb (a + 1) (values s)) 1 _ λ v.
      stacks_tight n s ok _
      (fines_push (without (a + 1) s.stack) (below s.stack 0) (fines_without (a + 1) s.stack ok.stack)
      (fine_below s.stack 0 ok.stack))

  -- A word that stands somewhere in the stack, copied to the top.
  copied_tight : (i : ℕ) → Each (Stays n s ok) (stacks s (s.stack ++ get_or s.stack i null ∷ []))
  copied_tight i =
      stacks_tight n s ok _ (fines_push s.stack (get_or s.stack i null) ok.stack (ok.stack.each i))

  -- 10 Copy
  pub Copy-tight : (a : ℕ) → Each (Stays n s ok) (Copy a s)
  unfolding Copy below
  Copy-tight a = each_need _ (leb (a + 1) (values s)) 1 _ λ v. copied_tight (sp s - (a + 1))

  -- 11 CopyArg
  pub CopyArg-tight : (a : ℕ) → Each (Stays n s ok) (CopyArg a s)
  unfolding CopyArg argument
  CopyArg-tight a =
      each_need _ (has_argument s a) 3 _ λ h.
      each_need _ (is_null (argument s a) || is_value (argument s a)) 2 _ λ t.
      copied_tight (s.regs.fp - (5 + a))

  -- 13 PushVar
  pub PushVar-tight : (a : ℕ) → Each (Stays n s ok) (PushVar a s)
  unfolding PushVar
  PushVar-tight a = each_need _ (has_local s a) 3 _ λ h. copied_tight (s.regs.fp + a)

  -- 12 CreateFrame
  pub CreateFrame-tight : (P : Program) → Sound P s → (a : ℕ) → a < 256 → Each (Stays n s ok) (CreateFrame a s)
  unfolding CreateFrame
  CreateFrame-tight P sound a h =
      each_need _ (leb 3 (values s)) 4 _ λ v.
      let fp = s.regs.fp in
      let l : fp + locals fp s.stack ≤ sp s = lp_le P s.heap s.stack fp sound.frames in
      let k : sp s ≤ 4096 = ok.sp in
      turns_tight n s ok _ refl (omega arith) (omega arith)
      (through_append Fine s.stack (link fp a ∷ replicate a null) ok.stack
      (through_cons Fine (link fp a) (replicate a null)
      (fine_word 6 (fp * 256 + a) (omega arith) (omega arith) (omega arith)) (through_nulls Fine fine_null a)))
      refl ok.wires 0

  -- 14 MakeVar
  pub MakeVar-tight : (a : ℕ) → Each (Stays n s ok) (MakeVar a s)
  unfolding MakeVar
  MakeVar-tight a =
      each_need _ (leb 1 (values s)) 1 _ λ v.
      each_need _ (has_local s a) 3 _ λ h.
      let w = below s.stack 0 in
      stacks_tight n s ok _
      (fines_without 1 (set s.stack (s.regs.fp + a) w)
      (through_set Fine s.stack (s.regs.fp + a) w (fine_below s.stack 0 ok.stack) ok.stack))
