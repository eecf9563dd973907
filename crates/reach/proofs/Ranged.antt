-- Every run within the caps is in range: the start is, and each instruction that stays within the caps keeps it so.
use mathlib.Core.Path.{◌≡◌, refl, sym, ap, subst}
use mathlib.Core.List.{List}
use mathlib.Core.Option.{Option, none, some}
use Prim.Native.Nat.{ℕ, suc, ◌≤◌, ◌<◌}
use native.Mathlib.Omega.{arith}
use lib.Dec.{ltb→lt}
use Rattle.limits.specs.Machine.{Act, ends, goes, Run, fresh, charge, taken, next}
use Rattle.hume.specs.Image.{Program}
use Rattle.hume.specs.Refusals.{field_ok, format, format_of}
use Rattle.hume.specs.State.{State, sp, hp, End}
use Rattle.hume.specs.Instructions.{instructions, MatchBool, MatchInt, MatchFloat, MatchTuple, MatchCon, MatchExn}
use Rattle.hume.specs.Machine.{becomes, machine, start}
use Rattle.laws.specs.Accepted.{Accepted, Narrow, CardFits, Words32}
use Rattle.reach.specs.Sound.{Sound, Ranged}
use Rattle.reach.proofs.Tables.{Table, end, ◌&◌}
use Rattle.reach.proofs.Steps.{went, costly}
use Rattle.reach.proofs.Dispatch.{Lawful, dispatch}
use Rattle.reach.proofs.Fine.{fine_null}
use Rattle.reach.proofs.Tight.{Tight, Stays}
use Rattle.reach.proofs.TightStack.{MkBool-tight, MkInt-tight, MkFloat-tight, MkNone-tight, MkTuple-tight, MkCon-tight, Push-tight, Pop-tight, Slide-tight, Copy-tight, CopyArg-tight, CreateFrame-tight, PushVar-tight, MakeVar-tight}
use Rattle.reach.proofs.TightControl.{Goto-tight, If-tight, Call-tight, Return-tight, CallPrim1-tight, CallPrim2-tight, Raise-tight, StartMatches-tight, MatchRule-tight, MatchedRule-tight, MatchNone-tight, MatchAvailable-tight, matches_tight, Unpack-tight, Reorder-tight}
use Rattle.reach.proofs.TightWires.{CopyInput-tight, Consume-tight, MaybeConsume-tight, CheckOutputs-tight, Write-tight, Schedule-tight}

-- ---- a run in range is a tight state whose steps all took time

tight : (r : Run State) → Ranged r → Tight r.steps r.state
tight r g =
    record {
      sp = g.sp;
      hp = g.hp;
      slp = g.slp;
      mp = g.mp;
      inp = g.inp;
      stack = record { each = λ i. record { small = g.stack i; static = g.statics i } };
      heap = record { each = g.heap };
      wires = g.wires;
    }

ranged : (r : Run State) → Tight r.steps r.state → r.steps ≤ r.time → Ranged r
ranged r g h =
    record {
      sp = g.sp;
      hp = g.hp;
      slp = g.slp;
      mp = g.mp;
      inp = g.inp;
      steps = h;
      stack = λ i. (g.stack.each i).small;
      statics = λ i. (g.stack.each i).static;
      heap = g.heap.each;
      wires = g.wires;
    }

-- ---- one instruction

module _ (P : Program) (acc : Accepted P) (nar : Narrow P) where
  lawful : (n : ℕ) (s : State) (ok : Tight n s) → Table (Lawful P acc nar s (Stays n s ok)) 1 instructions
  unfolding instructions field_ok format format_of MatchBool MatchInt MatchFloat MatchTuple MatchCon MatchExn
  lawful n s ok =
      (λ a b c t. MkBool-tight n s ok c (ltb→lt c 2 t.c_ok))
      & (λ a b c t. MkInt-tight n s ok c t.c_lt)
      & (λ a b c t. MkFloat-tight n s ok c t.c_lt)
      & (λ a b c t. MkNone-tight n s ok)
      & (λ a b c t. MkTuple-tight n s ok a t.a_lt)
      & (λ a b c t. MkCon-tight n s ok a b t.a_lt t.b_lt)
      & (λ a b c t. Push-tight n s ok a)
      & (λ a b c t. Pop-tight n s ok a)
      & (λ a b c t. Slide-tight n s ok a)
      & (λ a b c t. Copy-tight n s ok a)
      & (λ a b c t. CopyArg-tight n s ok a)
      & (λ a b c t. CreateFrame-tight n s ok P t.sound a t.a_lt)
      & (λ a b c t. PushVar-tight n s ok a)
      & (λ a b c t. MakeVar-tight n s ok a)
      & (λ a b c t. Goto-tight P acc n s ok b)
      & (λ a b c t. If-tight P acc n s ok b)
      & (λ a b c t. Call-tight P acc n s ok t.sound a)
      & (λ a b c t. Return-tight P acc n s ok)
      & (λ a b c t. CallPrim1-tight P acc n s ok a)
      & (λ a b c t. CallPrim2-tight P acc n s ok a)
      & (λ a b c t. Raise-tight P acc n s ok b t.b_lt)
      & (λ a b c t. StartMatches-tight P acc n s ok)
      & (λ a b c t. MatchRule-tight P acc n s ok)
      & (λ a b c t. MatchedRule-tight P acc n s ok)
      & (λ a b c t. MatchNone-tight P acc n s ok)
      & (λ a b c t. MatchAvailable-tight P acc n s ok)
      & (λ a b c t. matches_tight P acc n s ok _)
      & (λ a b c t. matches_tight P acc n s ok _)
      & (λ a b c t. matches_tight P acc n s ok _)
      & (λ a b c t. matches_tight P acc n s ok _)
      & (λ a b c t. matches_tight P acc n s ok _)
      & (λ a b c t. matches_tight P acc n s ok _)
      & (λ a b c t. Unpack-tight P acc n s ok t.sound)
      & (λ a b c t. Reorder-tight P acc n s ok)
      & (λ a b c t. CopyInput-tight n s ok P t.sound a (ltb→lt a P.inputs t.a_ok))
      & (λ a b c t. Consume-tight n s ok a)
      & (λ a b c t. MaybeConsume-tight n s ok a)
      & (λ a b c t. CheckOutputs-tight n s ok P)
      & (λ a b c t. Write-tight n s ok P a)
      & (λ a b c t. Schedule-tight n s ok)
      & end

  -- An instruction that stays within the caps leads from a tight state to a tight state.
  pub tight_kept : (card : List ℕ) (n : ℕ) (s : State) (t : ℕ) (u : State) → Sound P s → Tight n s
      → (machine P card).act s ≡ goes t u → sp u ≤ 4096 → hp u ≤ 16384 → Tight (suc n) u
  tight_kept card n s t u sound ok e x y =
      let w = went (Stays n s ok) P card s t u (dispatch P acc nar s (Stays n s ok) (lawful n s ok) sound) e in
      let q : u ≡ becomes s w.effect = w.state in
      subst (Tight (suc n)) (sym q)
      (w.holds (subst (λ (z : State). sp z ≤ 4096) q x) (subst (λ (z : State). hp z ≤ 16384) q y))

  -- ---- runs

  abbrev is_some : Option (Run State) → Type 0
  is_some none = ⊥
  is_some (some x) = Unit {0}

  abbrev run_of_lem : Run State → Option (Run State) → Run State
  run_of_lem r none = r
  run_of_lem r (some x) = x

  -- An instruction that stays within the caps leads from a run in range to a run in range.
  pub ranged_kept : (card : List ℕ) → CardFits card → (r x : Run State) → Sound P r.state → Ranged r
      → next (machine P card) r ≡ some x → sp x.state ≤ 4096 → hp x.state ≤ 16384 → Ranged x
  ranged_kept card c r x sound g e a b = by ((machine P card).act r.state) refl e
    where
      one_more : (t : ℕ) (u : State) → (machine P card).act r.state ≡ goes t u → sp u ≤ 4096 → hp u ≤ 16384
          → Ranged (charge (machine P card) r t u)
      one_more t u q h k =
          let z : 0 < t = costly P card c r.state t u q in
          let l : r.steps ≤ r.time = g.steps in
          ranged _ (tight_kept card r.steps r.state t u sound (tight r g) q h k) (omega arith)

      by : (d : Act State End) → (machine P card).act r.state ≡ d → taken (machine P card) r d ≡ some x → Ranged x
      by (ends o) q f = absurd (subst is_some (sym f) tt)
      by (goes t u) q f =
          let i : charge (machine P card) r t u ≡ x = ap (run_of_lem r) f in
          let s : u ≡ x.state = ap (λ (y : Run State). y.state) i in
          subst Ranged i
          (one_more t u q (subst (λ (y : State). sp y ≤ 4096) (sym s) a)
          (subst (λ (y : State). hp y ≤ 16384) (sym s) b))

-- The machine starts in range.
pub ranged_start : (P : Program) (wires order : List ℕ) → Words32 wires → Ranged (fresh (start P wires order))
unfolding start
ranged_start P wires order w =
    ranged _
    (record {
      sp = omega arith;
      hp = omega arith;
      slp = omega arith;
      mp = omega arith;
      inp = omega arith;
      stack = record { each = λ i. fine_null };
      heap = record { each = λ i. fine_null.small };
      wires = w;
    })
    (omega arith)
