-- Instructions 35 to 40: wires, and the end.
use mathlib.Core.Path.{refl, sym, subst}
use mathlib.Core.Bool.{not}
use mathlib.Core.List.{List, [], ◌++◌}
use Prim.Native.Nat.{ℕ, zero, suc, ◌+◌, ◌<◌}
use native.Mathlib.Omega.{arith}
use lib.Dec.{T, leb, leb→le}
use lib.ListN.{length}
use Rattle.limits.specs.Machine.{ends}
use Rattle.hume.specs.Tests.{all}
use Rattle.hume.specs.Words.{Word, is_ref, is_none, is_value}
use Rattle.hume.specs.Values.{placed, refers, row, first, spread, is_empty, wire_words, set_wire, good, one_value}
use Rattle.hume.specs.Image.{Program}
use Rattle.hume.specs.State.{State, hp, values, below, downward, without, blocked, next}
use Rattle.hume.specs.Instructions.{CopyInput, Consume, MaybeConsume, output_at, holds_up, checked, CheckOutputs, Write, Schedule}
use Rattle.laws.specs.Accepted.{WiresFit}
use Rattle.laws.specs.Whole.{Held, none_held, ref_held}
use Rattle.laws.proofs.Values.{one_value_lem}
use Rattle.laws.proofs.Objects.{placed_held, spread_one}
use Rattle.laws.proofs.Wires.{FullWire, wire_full, wire_clear, wire_put}
use Rattle.reach.specs.Sound.{Sound}
use Rattle.reach.proofs.Deeds.{each_need, each_pick}
use Rattle.reach.proofs.Frames.{frames_top}
use Rattle.reach.proofs.Plain.{plain_held, held_plain}
use Rattle.reach.proofs.Keeps.{Keeps, grown_frames, leaves_sound, turns_sound, stacks_keeps, rewires_keeps, popped, value_plain}

-- A wire that is not empty is a full one,
pub wire_there : (P : Program) (w : List ℕ) → WiresFit P w → (i : ℕ) → i < P.inputs + P.outputs
    → T (not (is_empty w i)) → FullWire w i
wire_there P w f i h t = wire_full w (P.inputs + P.outputs) i f.long h (f.each i h) t

-- and the value on it is a good one.
pub wire_good : (w : List ℕ) (i : ℕ) → FullWire w i → T (good (first (row (wire_words w i))))
wire_good w i f =
    let o = one_value_lem (wire_words w i) f.one in
    rw o.reads o.good

-- What a value that is not None spreads out to is one value.
held_one : (hs : List Word) (w : Word) → Held hs w → (T (is_none w) → ⊥) → T (one_value (spread hs w))
unfolding is_none is_ref
held_one hs w (none_held e) k = absurd (k (subst (λ (x : Word). T (is_none x)) (sym e) tt))
held_one hs w (ref_held p e o) k = spread_one (ref_held p e o) (subst (λ (x : Word). T (is_ref x)) (sym e) tt)

module _ (P : Program) (s : State) (ok : Sound P s) where
  -- 40 Schedule
  pub Schedule-keeps : Keeps P s (Schedule s)
  unfolding Schedule
  Schedule-keeps =
      record {
        pc = ok.pc;
        rs = ok.rs;
        rp = ok.rp;
        frames = grown_frames P s ok [] s.stack s.regs.fp ok.frames;
        order = ok.order;
        wires = ok.wires;
      }

  module _ (n : s.regs.pc + 1 < P.size) where
    -- 35 CopyInput
    pub CopyInput-keeps : (a : ℕ) → a < P.inputs → Keeps P s (CopyInput a s)
    unfolding CopyInput
    CopyInput-keeps a h =
        each_need _ (not (is_empty s.wires a)) 8 _ λ t.
        let v = first (row (wire_words s.wires a)) in
        let g = placed v (hp s) in
        let full = wire_there P s.wires ok.wires a (omega arith) t in
        let o = placed_held v s.heap (wire_good s.wires a full) in
        leaves_sound P s ok (next s.regs) _ g n ok.rs ok.rp
        (frames_top P (s.heap ++ g) s.stack s.regs.fp
        (grown_frames P s ok g s.stack s.regs.fp ok.frames) (refers v (hp s))
        (held_plain P (s.heap ++ g) (refers v (hp s)) o))

    -- 36 Consume
    pub Consume-keeps : (a : ℕ) → a < P.inputs → Keeps P s (Consume a s)
    unfolding Consume
    Consume-keeps a h =
        rewires_keeps P s ok s.stack (set_wire s.wires a []) n ok.frames
        (wire_clear P s.wires a ok.wires (omega arith))

    -- 37 MaybeConsume
    pub MaybeConsume-keeps : (a : ℕ) → a < P.inputs → Keeps P s (MaybeConsume a s)
    unfolding MaybeConsume
    MaybeConsume-keeps a h = Consume-keeps a h

    checked_keeps : (i k : ℕ) → Keeps P s (checked P s i k)
    unfolding checked
    checked_keeps i zero = turns_sound P s ok (next s.regs) s.stack n refl refl ok.frames
    checked_keeps i (suc k) = each_pick _ (holds_up P s i) (ends (blocked i)) _ (λ t. tt) λ t. checked_keeps (i + 1) k

    -- 38 CheckOutputs
    pub CheckOutputs-keeps : Keeps P s (CheckOutputs P s)
    unfolding CheckOutputs
    CheckOutputs-keeps =
        each_need _ (leb P.outputs (values s)) 1 _ λ v.
        each_need _ (all is_value (downward s.stack 0 P.outputs)) 2 _ λ t.
        checked_keeps 0 P.outputs

    -- 39 Write
    pub Write-keeps : (a : ℕ) → a < P.outputs → Keeps P s (Write P a s)
    unfolding Write output_at
    Write-keeps a h =
        each_need _ (leb 1 (values s)) 1 _ λ v.
        each_need _ (is_value (below s.stack 0)) 2 _ λ t.
        each_pick _ (is_none (below s.stack 0)) _ _ (λ e. stacks_keeps P s ok _ n (popped P s ok 1 v)) λ e.
        each_need _ (is_empty s.wires (output_at P a)) 5 _ λ u.
        each_need _ (leb (length (spread s.heap (below s.stack 0))) 64) 6 _ λ l.
        let w = below s.stack 0 in
        let o = plain_held P s.heap w (value_plain P s ok 1 v 0 (omega arith)) t in
        let ws = spread s.heap w in
        rewires_keeps P s ok (without 1 s.stack) (set_wire s.wires (P.inputs + a) ws) n (popped P s ok 1 v)
        (wire_put P s.wires (P.inputs + a) ws ok.wires (omega arith) (leb→le (length ws) 64 l)
        (held_one s.heap w o e))
