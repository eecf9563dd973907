-- Instructions 35 to 40 within the caps: wires, and the end.
use mathlib.Core.Path.{◌≡◌, refl}
use mathlib.Core.Bool.{not}
use mathlib.Core.List.{List, [], ◌++◌}
use Prim.Native.Nat.{ℕ, zero, suc, ◌+◌, ◌≤◌, ◌<◌}
use native.Mathlib.Omega.{arith}
use lib.Dec.{leb, leb→le}
use lib.ListN.{length, length-append}
use Rattle.limits.specs.Machine.{ends}
use Rattle.hume.specs.Tests.{all}
use Rattle.hume.specs.Words.{Word, is_none, is_value}
use Rattle.hume.specs.Values.{placed, refers, row, first, spread, is_empty, wire_words, set_wire}
use Rattle.hume.specs.Image.{Program}
use Rattle.hume.specs.State.{State, hp, values, below, downward, without, blocked, rewires}
use Rattle.hume.specs.Instructions.{CopyInput, Consume, MaybeConsume, output_at, holds_up, checked, CheckOutputs, Write, Schedule}
use Rattle.laws.specs.Accepted.{Words32}
use Rattle.laws.specs.Sizes.{size}
use Rattle.laws.proofs.Each.{words_nil}
use Rattle.laws.proofs.Values.{length_placed}
use Rattle.laws.proofs.Objects.{placed_held}
use Rattle.laws.proofs.Small.{refers_small, placed_small, spread_words}
use Rattle.laws.proofs.Wires.{words_set_wire, wire_narrow}
use Rattle.reach.specs.Sound.{Sound}
use Rattle.reach.proofs.Deeds.{Each, each_need, each_pick}
use Rattle.reach.proofs.Wires.{wire_there, wire_good}
use Rattle.reach.proofs.Fine.{Fines, fine_held, fines_push, fines_without}
use Rattle.reach.proofs.Tight.{Tight, Stays, effect_tight, turns_tight, stacks_tight}

module _ (n : ℕ) (s : State) (ok : Tight n s) where
  -- words of 32 bits on a wire
  rewires_tight : (ws : List Word) (i : ℕ) (v : List ℕ) → Fines ws → length v ≤ 64 → Words32 v
      → Each (Stays n s ok) (rewires s ws (set_wire s.wires i v))
  rewires_tight ws i v f l k =
      turns_tight n s ok _ refl (omega arith) (omega arith) f refl (words_set_wire s.wires i v l ok.wires k) 0

  -- 35 CopyInput
  pub CopyInput-tight : (P : Program) → Sound P s → (a : ℕ) → a < P.inputs → Each (Stays n s ok) (CopyInput a s)
  unfolding CopyInput
  CopyInput-tight P sound a h =
      each_need _ (not (is_empty s.wires a)) 8 _ λ t x y.
      let v = first (row (wire_words s.wires a)) in
      let g = placed v (hp s) in
      let full = wire_there P s.wires sound.wires a (omega arith) t in
      let good = wire_good s.wires a full in
      let l : length (s.heap ++ g) ≡ hp s + length g = length-append s.heap g in
      let z : length g ≡ size v = length_placed v (hp s) in
      let room : length (s.heap ++ g) ≤ 16384 = y in
      let mp : s.regs.mp ≤ n = ok.mp in
      let inp : s.regs.inp ≤ n = ok.inp in
      effect_tight n s ok _ ok.slp (omega arith) (omega arith)
      (fines_push s.stack (refers v (hp s)) ok.stack
      (fine_held (s.heap ++ g) (refers v (hp s)) (refers_small v (hp s) (omega arith)) (placed_held v s.heap good)))
      (record { each = placed_small v (hp s) good (wire_narrow s.wires a ok.wires full) (omega arith) })
      ok.wires 0 x y

  -- 36 Consume
  pub Consume-tight : (a : ℕ) → Each (Stays n s ok) (Consume a s)
  unfolding Consume
  Consume-tight a = rewires_tight s.stack a [] ok.stack (omega arith) words_nil

  -- 37 MaybeConsume
  pub MaybeConsume-tight : (a : ℕ) → Each (Stays n s ok) (MaybeConsume a s)
  unfolding MaybeConsume
  MaybeConsume-tight a = Consume-tight a

  checked_tight : (P : Program) (i k : ℕ) → Each (Stays n s ok) (checked P s i k)
  unfolding checked
  checked_tight P i zero = turns_tight n s ok _ refl (omega arith) (omega arith) ok.stack refl ok.wires 0
  checked_tight P i (suc k) =
      each_pick _ (holds_up P s i) (ends (blocked i)) _ (λ t. tt) λ t. checked_tight P (i + 1) k

  -- 38 CheckOutputs
  pub CheckOutputs-tight : (P : Program) → Each (Stays n s ok) (CheckOutputs P s)
  unfolding CheckOutputs
  CheckOutputs-tight P =
      each_need _ (leb P.outputs (values s)) 1 _ λ v.
      each_need _ (all is_value (downward s.stack 0 P.outputs)) 2 _ λ t.
      checked_tight P 0 P.outputs

  -- 39 Write
  pub Write-tight : (P : Program) (a : ℕ) → Each (Stays n s ok) (Write P a s)
  unfolding Write
  Write-tight P a =
      each_need _ (leb 1 (values s)) 1 _ λ v.
      each_need _ (is_value (below s.stack 0)) 2 _ λ t.
      let left = fines_without 1 s.stack ok.stack in
      each_pick _ (is_none (below s.stack 0)) _ _ (λ e. stacks_tight n s ok _ left) λ e.
      each_need _ (is_empty s.wires (output_at P a)) 5 _ λ u.
      each_need _ (leb (length (spread s.heap (below s.stack 0))) 64) 6 _ λ l.
      let ws = spread s.heap (below s.stack 0) in
      rewires_tight (without 1 s.stack) (output_at P a) ws left (leb→le (length ws) 64 l)
      (spread_words s.heap ok.heap.each (below s.stack 0))

  -- 40 Schedule
  pub Schedule-tight : Each (Stays n s ok) (Schedule s)
  unfolding Schedule
  Schedule-tight = turns_tight n s ok _ refl (omega arith) (omega arith) ok.stack refl ok.wires 0
