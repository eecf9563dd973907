-- What the instructions that empty and test wires lead to, and the kinds of words by their 32 bits.
use mathlib.Core.Path.{◌≡◌, refl, sym, ap, ◌∙◌, subst}
use mathlib.Core.Bool.{true, false, not}
use mathlib.Core.List.{List, [], append-nil}
use Prim.Native.Nat.{ℕ, zero, suc, ◌+◌, ◌-◌, ◌*◌, ◌^◌, ◌≤◌, ◌<◌}
use native.Mathlib.Omega.{arith}
use native.Mathlib.Decide.{ℕ_discrete}
use lib.Dec.{T, leb, eqb, leb→le, le→leb, eqb→eq, T_not, not_T}
use lib.ListN.{length, get_or, replicate}
use lib.Seq.{paste}
use Rattle.std.specs.Prelude.{Some, None}
use Rattle.limits.specs.Machine.{ends, goes}
use Rattle.hume.specs.Tests.{pick, all}
use Rattle.hume.specs.Words.{Word, bits, is_none, is_value}
use Rattle.hume.specs.Image.{Program}
use Rattle.hume.specs.Values.{wire_count, is_empty, set_wire}
use Rattle.hume.specs.State.{State, fault, blocked, Deed, values, locals, need, next, turns, below, downward}
use Rattle.hume.specs.Instructions.{Consume, output_at, holds_up, checked, CheckOutputs}
use Rattle.hume.specs.Machine.{charged}
use Rattle.laws.specs.Sizes.{Small}
use Rattle.laws.proofs.Tests.{of_true, and_left, and_right, and_both, eqb_of, pick_true, pick_false}
use Rattle.laws.proofs.Words.{none_is}
use Rattle.laws.proofs.Deeds.{need_yes, need_no}
use Rattle.engine.specs.Fits.{Fit}
use Rattle.engine.specs.Copies.{Stuck, FirstStuck}
use Rattle.engine.specs.Turns.{Smalls, plain, core, Holds, halt, Buffers, Turned, priced}
use Rattle.engine.specs.declared.Ending.TheVariants as ending
use Rattle.engine.specs.Limits.{Limits}
use Rattle.engine.specs.declared.regs.Regs.{Regs}
use Rattle.engine.specs.declared.regs.Turn.{Turn}
use Rattle.engine.proofs.Turning.{Leads, stops, lead_still, values_are, reads_below}
use Rattle.engine.proofs.Moving.{stacked}
use Rattle.engine.proofs.WordKinds.{not_so}

-- ---- a wire that is emptied

-- 65 zeros are a wire with no words
pub cleared : (w : List ℕ) (a : ℕ) → paste w (65 * a) (replicate 65 0) 65 ≡ set_wire w a []
unfolding set_wire
cleared w a = refl

-- what changes the wires
pub lead_wired : (cost : ℕ) (s : State) (next : Regs) {ws : List Word} {w : List ℕ} {d : Deed}
    → d ≡ goes 0 (record { regs = plain next; stack = ws; grown = []; wires = w; order = s.order; done = false })
    → next.sp ≡ length ws → next.hp ≡ length s.heap → next.lp ≡ next.fp + locals next.fp ws
    → Leads cost (charged cost s d) next ws s.heap w s.order
unfolding charged
lead_wired cost s next p a b c =
    let z : cost + 0 ≡ cost = omega arith in
    record { same = rw (p, append-nil, z); sp = a; hp = b; lp = c }

-- ---- the kinds of words, from their 32 bits

pub none_bits : (w : Word) → Small w → bits w ≡ 2 ^ 29 → T (is_none w)
unfolding bits is_none
none_bits w s e =
    let p : w.payload < 2 ^ 28 = s.payload in
    let t : w.type ≡ 2 = omega arith in
    let z : w.payload ≡ 0 = omega arith in
    and_both (eqb w.type 2) _ (eqb_of w.type 2 t) (eqb_of w.payload 0 z)

pub bits_none : (w : Word) → T (is_none w) → bits w ≡ 2 ^ 29
unfolding bits
bits_none w t = ap bits (none_is w t)

-- ---- outputs, tested in their order

module _ (P : Program) (s : State) where
  pub checked_stuck : (i n q : ℕ) → i ≤ q → q < i + n → ((k : ℕ) → k < q → T (holds_up P s k) → ⊥) → T (holds_up P s q)
      → checked P s i n ≡ ends (blocked q)
  unfolding checked
  checked_stuck i zero q l h b a = absurd (omega arith)
  checked_stuck i (suc n) q l h b a =
      by (ℕ_discrete i q) (λ m. checked_stuck (i + 1) n q m (omega arith) b a)
    where
      by : Dec (i ≡ q) → (i + 1 ≤ q → checked P s (i + 1) n ≡ ends (blocked q))
          → pick (holds_up P s i) (ends (blocked i)) (checked P s (i + 1) n) ≡ ends (blocked q)
      by (yes e) later =
          pick_true (holds_up P s i) (ends (blocked i)) (checked P s (i + 1) n) (subst (λ (k : ℕ). T (holds_up P s k)) (sym e) a)
          ∙ ap (λ (k : ℕ). ends (blocked k)) e
      by (no e) later =
          pick_false (holds_up P s i) (ends (blocked i)) (checked P s (i + 1) n) (b i (omega arith)) ∙ later (omega arith)

  pub checked_free : (i n : ℕ) → ((k : ℕ) → k < i + n → T (holds_up P s k) → ⊥) → checked P s i n ≡ turns s (next s.regs)
  unfolding checked
  checked_free i zero b = refl
  checked_free i (suc n) b =
      pick_false (holds_up P s i) (ends (blocked i)) (checked P s (i + 1) n) (b i (omega arith))
      ∙ checked_free (i + 1) n (λ k h. b k (omega arith))

-- ---- what they lead to

module _ {r : Regs} (f : Fit r) {st he : List ℕ} {ws hs : List Word} (h : Holds r st he ws hs)
    (wi or : List ℕ) where
  abbrev s : State
  s = core r ws hs wi or false

  pub consume_leads : (cost a : ℕ) → Leads cost (priced cost (Consume a) s) (stacked r r.sp) ws hs (set_wire wi a []) or
  unfolding Consume
  consume_leads cost a = lead_wired cost s (stacked r r.sp) refl h.sp h.hp h.lp

  module _ (P : Program) (small : Smalls ws) (n : ℕ) (many : P.outputs ≡ n) where
    pub check_few : (cost : ℕ) {b : Buffers} {q : Turn} {lim : Limits} → r.sp - r.lp < n → q ≡ halt r (ending.Fault 1)
        → Turned lim r b (priced cost (CheckOutputs P) s) q b
    unfolding CheckOutputs
    check_few cost {b} {q} k e =
        stops cost _ r b s (fault 1)
        (need_no (leb P.outputs (values s)) 1 _
        (λ t. let v : P.outputs ≤ r.sp - r.lp = rw (values_are h wi or false) at (leb→le P.outputs (values s) t) in
        omega (arith, many)))
        e

    enough : n ≤ r.sp - r.lp → (d : Deed) → need (leb P.outputs (values s)) 1 d ≡ d
    enough k d =
        need_yes (leb P.outputs (values s)) 1 d
        (le→leb P.outputs (values s) (rw (values_are h wi or false, many) k))

    bits_below : (k : ℕ) → k < n → n ≤ r.sp - r.lp → get_or st (r.sp - (k + 1)) 0 ≡ bits (below ws k)
    bits_below k l m = reads_below h k _ (omega (arith, f.lp)) refl

    small_below : (k : ℕ) → Small (below ws k)
    unfolding below
    small_below k = small.each (length ws - (k + 1))

    pub check_other : (cost : ℕ) {b : Buffers} {q : Turn} {lim : Limits} → n ≤ r.sp - r.lp → all is_value (downward ws 0 n) ≡ false
        → q ≡ halt r (ending.Fault 2) → Turned lim r b (priced cost (CheckOutputs P) s) q b
    unfolding CheckOutputs
    check_other cost {b} {q} k o e =
        stops cost _ r b s (fault 2)
        (enough k _ ∙ need_no (all is_value (downward ws 0 P.outputs)) 2 _ (λ t. not_so o (rw many at t)))
        e

    module _ (inputs : ℕ) (left : P.inputs ≡ inputs) where
      stuck_holds : (k : ℕ) → k < n → n ≤ r.sp - r.lp → Stuck st r.sp wi inputs k → T (holds_up P s k)
      unfolding holds_up is_empty wire_count output_at
      stuck_holds k l m t =
          and_both (not (is_none (below ws k))) _
          (not_T (is_none (below ws k)) (λ z. t.some (bits_below k l m ∙ bits_none (below ws k) z)))
          (not_T (eqb (get_or wi (65 * (P.inputs + k)) 0) 0)
          (λ z. t.full (rw left at (eqb→eq (get_or wi (65 * (P.inputs + k)) 0) 0 z))))

      holds_stuck : (k : ℕ) → k < n → n ≤ r.sp - r.lp → T (holds_up P s k) → Stuck st r.sp wi inputs k
      unfolding holds_up is_empty wire_count output_at
      holds_stuck k l m t =
          record {
            some = λ e. T_not (is_none (below ws k)) (and_left (not (is_none (below ws k))) _ t)
                (none_bits (below ws k) (small_below k) (sym (bits_below k l m) ∙ e));
            full = λ e. T_not (eqb (get_or wi (65 * (P.inputs + k)) 0) 0) (and_right (not (is_none (below ws k))) _ t)
                (eqb_of (get_or wi (65 * (P.inputs + k)) 0) 0 (rw left e));
          }

      ready : n ≤ r.sp - r.lp → all is_value (downward ws 0 n) ≡ true → CheckOutputs P s ≡ checked P s 0 n
      unfolding CheckOutputs
      ready k o =
          enough k _
          ∙ need_yes (all is_value (downward ws 0 P.outputs)) 2 (checked P s 0 P.outputs) (rw many (of_true o))
          ∙ ap (λ (m : ℕ). checked P s 0 m) many

      pub check_stuck : (cost j : ℕ) {b : Buffers} {q : Turn} {lim : Limits} → n ≤ r.sp - r.lp → all is_value (downward ws 0 n) ≡ true
          → FirstStuck st r.sp wi inputs n (Some j) → q ≡ halt r (ending.Blocked j)
          → Turned lim r b (priced cost (CheckOutputs P) s) q b
      check_stuck cost j {b} {q} k o t e =
          stops cost _ r b s (blocked j)
          (ready k o
          ∙ checked_stuck P s 0 n j (omega arith) (omega (arith, t.0))
          (λ x y z. t.1 x y (holds_stuck x (omega (arith, t.0)) k z)) (stuck_holds j t.0 k t.2))
          e

      pub check_leads : (cost : ℕ) → n ≤ r.sp - r.lp → all is_value (downward ws 0 n) ≡ true
          → FirstStuck st r.sp wi inputs n None
          → Leads cost (priced cost (CheckOutputs P) s) (stacked r r.sp) ws hs wi or
      check_leads cost k o t =
          lead_still cost s (stacked r r.sp)
          (ready k o ∙ checked_free P s 0 n (λ x y z. t x (omega arith) (holds_stuck x (omega arith) k z)))
          h.sp h.hp h.lp
