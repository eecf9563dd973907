-- Instructions 1 to 6: heap objects.
use mathlib.Core.Path.{◌≡◌, refl, sym, ap, ◌∙◌, subst}
use mathlib.Core.Bool.{◌&&◌, ◌||◌}
use mathlib.Core.List.{[], ◌∷◌, ◌++◌}
use Prim.Native.Nat.{ℕ, ◌+◌, ◌*◌, ◌/◌, ◌≤◌, ◌<◌}
use native.Mathlib.Nat.{zero-add}
use native.Mathlib.Omega.{arith}
use lib.Dec.{T, leb, eqb, le→leb}
use lib.ListN.{length, get_or}
use Rattle.hume.specs.Tests.{all}
use Rattle.hume.specs.Words.{null, none, raw, is_value, bool_header, int_header, float_header, tuple_header, constr_header}
use Rattle.hume.specs.Values.{atom_ok, block_ok}
use Rattle.hume.specs.Image.{Program}
use Rattle.hume.specs.Numbers.{canonical}
use Rattle.hume.specs.State.{State, hp, values, below, downward, without, builds}
use Rattle.hume.specs.Instructions.{MkBool, MkInt, MkFloat, MkNone, mk_block, MkTuple, MkCon}
use Rattle.laws.specs.Whole.{Whole, Held}
use Rattle.laws.proofs.Tests.{all_at, and_both, or_left, or_right, eqb_of}
use Rattle.laws.proofs.Objects.{atom_whole, block_whole}
use Rattle.reach.specs.Sound.{Plain, Sound}
use Rattle.reach.proofs.Deeds.{each_need}
use Rattle.reach.proofs.Results.{bool_ok, int_ok, canonical_ok}
use Rattle.reach.proofs.Plain.{plain_held}
use Rattle.reach.proofs.Frames.{frames_top}
use Rattle.reach.proofs.Keeps.{Keeps, downward_length, downward_at, stacks_keeps, builds_keeps, popped, value_plain}

-- a Tuple or Constr of at most 255 fields
tuple_ok : (n : ℕ) → n ≤ 255 → T (block_ok tuple_header n)
unfolding block_ok
tuple_ok n h = or_left (leb n 255) _ (le→leb n 255 h)

constr_ok : (b n : ℕ) → b < 65536 → n ≤ 255 → T (block_ok (constr_header b) n)
unfolding block_ok
constr_ok b n k h =
    let e : (5 * 65536 + b) / 65536 ≡ 5 = omega arith in
    or_left ((eqb (constr_header b) tuple_header || eqb (constr_header b / 65536) 5) && leb n 255) _
    (and_both (eqb (constr_header b) tuple_header || eqb (constr_header b / 65536) 5) (leb n 255)
    (or_right (eqb (constr_header b) tuple_header) _ (eqb_of _ 5 e)) (le→leb n 255 h))

module _ (P : Program) (s : State) (ok : Sound P s) (next : s.regs.pc + 1 < P.size) where
  -- an atom on top of the stack
  atom_keeps : (h x : ℕ) → T (atom_ok h x) → Keeps P s (builds s 0 s.stack (raw h ∷ raw x ∷ []))
  atom_keeps h x t =
      builds_keeps P s ok 0 s.stack (raw h ∷ raw x ∷ []) next ok.frames (atom_whole s.heap h x t)

  -- 1 MkBool
  pub MkBool-keeps : (c : ℕ) → c < 2 → Keeps P s (MkBool c s)
  unfolding MkBool
  MkBool-keeps c h = atom_keeps bool_header c (bool_ok c h)

  -- 2 MkInt
  pub MkInt-keeps : (c : ℕ) → Keeps P s (MkInt c s)
  unfolding MkInt
  MkInt-keeps c = atom_keeps int_header c (int_ok c)

  -- 3 MkFloat
  pub MkFloat-keeps : (c : ℕ) → Keeps P s (MkFloat c s)
  unfolding MkFloat
  MkFloat-keeps c = atom_keeps float_header (canonical c) (canonical_ok c)

  -- 4 MkNone
  pub MkNone-keeps : Keeps P s (MkNone s)
  unfolding MkNone
  MkNone-keeps =
      stacks_keeps P s ok _ next
      (frames_top P s.heap s.stack s.regs.fp ok.frames none (Plain.is_none refl))

  -- values from the stack as the fields of an object
  fields_held : (a : ℕ) → T (leb a (values s)) → T (all is_value (downward s.stack 0 a))
      → (i : ℕ) → i < length (downward s.stack 0 a) → Held s.heap (get_or (downward s.stack 0 a) i null)
  fields_held a v t i k =
      let l : length (downward s.stack 0 a) ≡ a = downward_length s.stack 0 a in
      let e : get_or (downward s.stack 0 a) i null ≡ below s.stack i =
      downward_at s.stack 0 a i (omega arith) ∙ ap (below s.stack) (zero-add i) in
      plain_held P s.heap (get_or (downward s.stack 0 a) i null)
      (subst (Plain P s.heap) (sym e) (value_plain P s ok a v i (omega arith)))
      (all_at is_value (downward s.stack 0 a) null t i k)

  block_keeps : (h a : ℕ) → T (block_ok h a) → Keeps P s (mk_block h a s)
  unfolding mk_block
  block_keeps h a b =
      each_need _ (leb a (values s)) 1 _ λ v.
      each_need _ (all is_value (downward s.stack 0 a)) 2 _ λ t.
      let fs = downward s.stack 0 a in
      let e : length fs ≡ a = downward_length s.stack 0 a in
      builds_keeps P s ok 0 (without a s.stack) (raw h ∷ raw a ∷ fs) next (popped P s ok a v)
      (subst (λ (n : ℕ). Whole (s.heap ++ raw h ∷ raw n ∷ fs) (hp s)) e
      (block_whole s.heap h fs (subst (λ (n : ℕ). T (block_ok h n)) (sym e) b) (fields_held a v t)))

  -- 5 MkTuple
  pub MkTuple-keeps : (a : ℕ) → a < 256 → Keeps P s (MkTuple a s)
  unfolding MkTuple
  MkTuple-keeps a h = block_keeps tuple_header a (tuple_ok a (omega arith))

  -- 6 MkCon
  pub MkCon-keeps : (a b : ℕ) → a < 256 → b < 65536 → Keeps P s (MkCon a b s)
  unfolding MkCon
  MkCon-keeps a b h k = block_keeps (constr_header b) a (constr_ok b a k (omega arith))
