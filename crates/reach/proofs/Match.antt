-- Instructions 22 to 34: matching.
use mathlib.Core.Path.{◌≡◌, refl, subst}
use mathlib.Core.Bool.{Bool, true, false, ◌||◌}
use mathlib.Core.List.{List, []}
use Prim.Native.Nat.{ℕ, suc, ◌+◌, ◌/◌, ◌≤◌, ◌<◌}
use native.Mathlib.Nat.{add-zero}
use native.Mathlib.Decide.{dec_le}
use native.Mathlib.Omega.{arith}
use lib.Dec.{T, leb, ltb, eqb, eqb→eq, ltb→lt}
use lib.ListN.{length, get_or, take, drop, get_or-eq_default}
use Rattle.hume.specs.Tests.{pick}
use Rattle.hume.specs.Words.{Word, null, bits, is_ref, is_value, tuple_header}
use Rattle.hume.specs.Values.{is_empty}
use Rattle.hume.specs.Image.{Program, order_at}
use Rattle.hume.specs.State.{Regs, State, lp, values, below, without, number_at, second, rule_at, rule_count, at, next, turns, fails}
use Rattle.hume.specs.Instructions.{StartMatches, MatchRule, MatchedRule, moved, MatchNone, MatchAvailable, argument, has_argument, matches}
use Rattle.hume.specs.Instructions.{is_tuple_or_constr, Unpack, move_last, reordered, Reorder}
use Rattle.laws.specs.Accepted.{Accepted, OrderFits}
use Rattle.laws.specs.Whole.{Held}
use Rattle.laws.proofs.Tests.{and_left, and_right, OneOf, one, other, or_cases}
use Rattle.laws.proofs.Objects.{Block, whole_block, block_fields_length, block_fields_held}
use Rattle.laws.proofs.Orders.{order_small}
use Rattle.reach.specs.Sound.{Plain, is_null, Frames, Sound}
use Rattle.reach.proofs.Deeds.{each_need, each_pick, each_fails}
use Rattle.reach.proofs.Frames.{frames_push, frames_cut}
use Rattle.reach.proofs.Order.{order_moved}
use Rattle.reach.proofs.Plain.{held_plain, plain_whole}
use Rattle.reach.proofs.Keeps.{Keeps, grown_frames, leaves_sound, turns_sound, stacks_keeps, popped, value_plain}

-- ---- the fields of an object

-- A field that the heap holds, or the null past the last.
pub data FieldWord (hs : List Word) (w : Word) : Type 0 where
  there : Held hs w → FieldWord hs w
  past : w ≡ null → FieldWord hs w

-- the fields of a whole object, as many as it has
field_word : (hs : List Word) (p : ℕ) → Block hs p
    → (i : ℕ) → FieldWord hs (get_or (take (bits (get_or hs (p + 1) null)) (drop (p + 2) hs)) i null)
field_word hs p b i = by (dec_le (suc i) n)
  where
    n : ℕ
    n = bits (get_or hs (p + 1) null)

    fs : List Word
    fs = take n (drop (p + 2) hs)

    by : Dec (suc i ≤ n) → FieldWord hs (get_or fs i null)
    by (yes h) = there (block_fields_held b i h)
    by (no h) =
        let l : length fs ≡ n = block_fields_length b in
        past (get_or-eq_default fs null (omega arith))

field_plain : (P : Program) (hs : List Word) (w : Word) → FieldWord hs w → Plain P hs w
field_plain P hs w (there o) = held_plain P hs w o
field_plain P hs w (past e) = is_null e

-- A Tuple or Constr has the header of a block.
block_of : (hs : List Word) (w : Word) → T (is_tuple_or_constr hs w) → tuple_header ≤ bits (get_or hs w.payload null)
unfolding is_tuple_or_constr number_at
block_of hs w t = subst (λ (p : ℕ). tuple_header ≤ bits (get_or hs p null)) (add-zero w.payload) (by (or_cases _ _ u))
  where
    h : ℕ
    h = bits (get_or hs (w.payload + 0) null)

    u : T (eqb h tuple_header || eqb (h / 65536) 5)
    u = and_right (is_ref w) _ t

    by : OneOf (eqb h tuple_header) (eqb (h / 65536) 5) → tuple_header ≤ h
    by (one e) = let k : h ≡ tuple_header = eqb→eq h tuple_header e in omega arith
    by (other e) = let k : h / 65536 ≡ 5 = eqb→eq (h / 65536) 5 e in omega arith

module _ (P : Program) (acc : Accepted P) (s : State) (ok : Sound P s) where
  -- ---- rules

  -- The rule at a place of the current ruleset's order is an address.
  rule_lt : (k : ℕ) → k < P.count s.regs.rs → rule_at P s k < P.size
  unfolding rule_at
  rule_lt k h = acc.rule s.regs.rs _ ok.rs (order_small ok.order s.regs.rs ok.rs k h)

  -- 22 StartMatches
  pub StartMatches-keeps : Keeps P s (StartMatches P s)
  unfolding StartMatches
  StartMatches-keeps =
      turns_sound P s ok (at (rule_at P s 0) s.regs) s.stack
      (rule_lt 0 (acc.some_rule s.regs.rs ok.rs)) refl refl ok.frames

  -- the stack down to lp
  dropped : Frames P s.heap (take (lp s) s.stack) s.regs.fp
  unfolding lp
  dropped = frames_cut P s.heap s.stack s.regs.fp ok.frames (lp s) (omega arith)

  -- A failed match goes to the rule at rp, whatever it leaves in mp and inp.
  fails_keeps : (r : Regs) → r.fp ≡ s.regs.fp → r.rs ≡ s.regs.rs → r.rp ≡ s.regs.rp → Keeps P s (fails P s r)
  unfolding rule_count
  fails_keeps r a b c =
      each_fails _ P s r λ t.
      turns_sound P s ok (at (rule_at P s s.regs.rp) r) s.stack
      (rule_lt s.regs.rp (ltb→lt s.regs.rp (P.count s.regs.rs) t)) b c (rw a ok.frames)

  -- 34 Reorder
  pub Reorder-keeps : s.regs.pc + 1 < P.size → Keeps P s (Reorder P s)
  unfolding Reorder reordered rule_count pick
  Reorder-keeps n =
      record {
        pc = n;
        rs = ok.rs;
        rp = ok.rp;
        frames = grown_frames P s ok [] s.stack s.regs.fp ok.frames;
        order = by (ltb s.regs.rp (P.count s.regs.rs)) (ltb→lt s.regs.rp (P.count s.regs.rs));
        wires = ok.wires;
      }
    where
      moved_order : List ℕ
      moved_order =
          move_last s.order (order_at P s.regs.rs + s.regs.rp) (order_at P s.regs.rs + P.count s.regs.rs)

      by : (b : Bool) → (T b → s.regs.rp < P.count s.regs.rs) → OrderFits P (pick b moved_order s.order)
      by true h = order_moved P s.order ok.order s.regs.rs s.regs.rp ok.rs (h tt)
      by false h = ok.order

  -- The words that Unpack pushes are the fields of the object on top.
  pub unpacked : T (leb 1 (values s)) → T (is_tuple_or_constr s.heap (below s.stack 0))
      → (i : ℕ)
      → FieldWord s.heap
      (get_or (take (second s.heap (below s.stack 0)) (drop ((below s.stack 0).payload + 2) s.heap)) i null)
  unfolding second number_at is_tuple_or_constr
  unpacked v t =
      let w = below s.stack 0 in
      let o = plain_whole P s.heap w (value_plain P s ok 1 v 0 (omega arith)) (and_left (is_ref w) _ t) in
      field_word s.heap w.payload (whole_block o (block_of s.heap w t))

  -- ---- matches

  module _ (n : s.regs.pc + 1 < P.size) where
    -- 23 MatchRule
    pub MatchRule-keeps : Keeps P s (MatchRule P s)
    unfolding MatchRule rule_count
    MatchRule-keeps =
        each_need _ (ltb s.regs.rp (P.count s.regs.rs)) 7 _ λ t.
        let h : s.regs.rp < P.count s.regs.rs = ltb→lt s.regs.rp (P.count s.regs.rs) t in
        leaves_sound P s ok _ _ [] n ok.rs (omega arith) (grown_frames P s ok [] _ s.regs.fp dropped)

    -- 24 MatchedRule
    pub MatchedRule-keeps : Keeps P s (MatchedRule s)
    unfolding MatchedRule
    MatchedRule-keeps = stacks_keeps P s ok (take (lp s) s.stack) n dropped

    -- a match that goes on
    goes_on : (m i : ℕ) → Keeps P s (turns s (next (moved s.regs m i)))
    goes_on m i = turns_sound P s ok (next (moved s.regs m i)) s.stack n refl refl ok.frames

    -- 25 MatchNone
    pub MatchNone-keeps : Keeps P s (MatchNone s)
    unfolding MatchNone
    MatchNone-keeps = goes_on 1 1

    -- 26 MatchAvailable
    pub MatchAvailable-keeps : Keeps P s (MatchAvailable P s)
    unfolding MatchAvailable
    MatchAvailable-keeps =
        each_need _ (ltb s.regs.inp P.inputs) 3 _ λ t.
        each_pick _ (is_empty s.wires s.regs.inp) _ _ (λ e. fails_keeps (moved s.regs 0 1) refl refl refl) λ e.
        goes_on 0 1

    -- Instructions 27 to 32: a match of an argument, whatever the test.
    pub matches_keeps : (test : List Word → Word → Bool) → Keeps P s (matches P test s)
    unfolding matches
    matches_keeps test =
        each_need _ (has_argument s s.regs.mp) 3 _ λ h.
        each_need _ (is_value (argument s s.regs.mp)) 2 _ λ v.
        each_pick _ (test s.heap (argument s s.regs.mp)) _ _ (λ e. goes_on 1 0) λ e.
        fails_keeps (moved s.regs 1 0) refl refl refl

    -- 33 Unpack
    pub Unpack-keeps : Keeps P s (Unpack s)
    unfolding Unpack
    Unpack-keeps =
        each_need _ (leb 1 (values s)) 1 _ λ v.
        each_need _ (is_tuple_or_constr s.heap (below s.stack 0)) 2 _ λ t.
        stacks_keeps P s ok _ n
        (frames_push P s.heap (without 1 s.stack) s.regs.fp (popped P s ok 1 v) _
        (record { each = λ i. field_plain P s.heap _ (unpacked v t i) }))
