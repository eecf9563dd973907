-- Every state that the machine reaches from its start is sound: the start is, and each instruction keeps it so.
use mathlib.Core.Path.{◌≡◌, refl, sym, subst}
use mathlib.Core.List.{List, []}
use Prim.Native.Nat.{ℕ}
use native.Mathlib.Omega.{arith}
use lib.Dec.{ltb→lt}
use Rattle.limits.specs.Machine.{goes}
use Rattle.hume.specs.Image.{Program}
use Rattle.hume.specs.Refusals.{field_ok, format, format_of}
use Rattle.hume.specs.State.{State}
use Rattle.hume.specs.Instructions.{instructions, MatchBool, MatchInt, MatchFloat, MatchTuple, MatchCon, MatchExn}
use Rattle.hume.specs.Machine.{becomes, deed, machine, start}
use Rattle.laws.specs.Accepted.{Accepted, Narrow, WiresFit, OrderFits}
use Rattle.reach.specs.Sound.{Plain, bottom, Sound}
use Rattle.reach.proofs.Tables.{Table, end, ◌&◌}
use Rattle.reach.proofs.Plain.{null_plain}
use Rattle.reach.proofs.Lists.{through_nil}
use Rattle.reach.proofs.Keeps.{Keeps}
use Rattle.reach.proofs.Heap.{MkBool-keeps, MkInt-keeps, MkFloat-keeps, MkNone-keeps, MkTuple-keeps, MkCon-keeps}
use Rattle.reach.proofs.Stack.{Push-keeps, Pop-keeps, Slide-keeps, Copy-keeps, CopyArg-keeps, CreateFrame-keeps, PushVar-keeps, MakeVar-keeps}
use Rattle.reach.proofs.Control.{Goto-keeps, If-keeps, Call-keeps, Return-keeps, CallPrim1-keeps, CallPrim2-keeps, Raise-keeps}
use Rattle.reach.proofs.Match.{StartMatches-keeps, MatchRule-keeps, MatchedRule-keeps, MatchNone-keeps, MatchAvailable-keeps, matches_keeps, Unpack-keeps, Reorder-keeps}
use Rattle.reach.proofs.Wires.{CopyInput-keeps, Consume-keeps, MaybeConsume-keeps, CheckOutputs-keeps, Write-keeps, Schedule-keeps}
use Rattle.reach.proofs.Steps.{went}
use Rattle.reach.proofs.Dispatch.{Lawful, dispatch}

module _ (P : Program) (acc : Accepted P) (nar : Narrow P) where
  lawful : (s : State) → Table (Lawful P acc nar s (λ c f. Sound P (becomes s f))) 1 instructions
  unfolding instructions field_ok format format_of MatchBool MatchInt MatchFloat MatchTuple MatchCon MatchExn
  lawful s =
      (λ a b c t. MkBool-keeps P s t.sound (t.next tt) c (ltb→lt c 2 t.c_ok))
      & (λ a b c t. MkInt-keeps P s t.sound (t.next tt) c)
      & (λ a b c t. MkFloat-keeps P s t.sound (t.next tt) c)
      & (λ a b c t. MkNone-keeps P s t.sound (t.next tt))
      & (λ a b c t. MkTuple-keeps P s t.sound (t.next tt) a t.a_lt)
      & (λ a b c t. MkCon-keeps P s t.sound (t.next tt) a b t.a_lt t.b_lt)
      & (λ a b c t. Push-keeps P s t.sound (t.next tt) a)
      & (λ a b c t. Pop-keeps P s t.sound (t.next tt) a)
      & (λ a b c t. Slide-keeps P s t.sound (t.next tt) a)
      & (λ a b c t. Copy-keeps P s t.sound (t.next tt) a)
      & (λ a b c t. CopyArg-keeps P s t.sound (t.next tt) a)
      & (λ a b c t. CreateFrame-keeps P s t.sound (t.next tt) a t.a_lt)
      & (λ a b c t. PushVar-keeps P s t.sound (t.next tt) a)
      & (λ a b c t. MakeVar-keeps P s t.sound (t.next tt) a)
      & (λ a b c t. Goto-keeps P acc s t.sound b (ltb→lt b P.size t.b_ok))
      & (λ a b c t. If-keeps P acc s t.sound (t.next tt) b (ltb→lt b P.size t.b_ok))
      & (λ a b c t. Call-keeps P acc s t.sound (t.next tt) a (ltb→lt a P.rulesets t.a_ok))
      & (λ a b c t. Return-keeps P acc s t.sound)
      & (λ a b c t. CallPrim1-keeps P acc s t.sound (t.next tt) a)
      & (λ a b c t. CallPrim2-keeps P acc s t.sound (t.next tt) a)
      & (λ a b c t. Raise-keeps P acc s t.sound b t.b_lt)
      & (λ a b c t. StartMatches-keeps P acc s t.sound)
      & (λ a b c t. MatchRule-keeps P acc s t.sound (t.next tt))
      & (λ a b c t. MatchedRule-keeps P acc s t.sound (t.next tt))
      & (λ a b c t. MatchNone-keeps P acc s t.sound (t.next tt))
      & (λ a b c t. MatchAvailable-keeps P acc s t.sound (t.next tt))
      & (λ a b c t. matches_keeps P acc s t.sound (t.next tt) _)
      & (λ a b c t. matches_keeps P acc s t.sound (t.next tt) _)
      & (λ a b c t. matches_keeps P acc s t.sound (t.next tt) _)
      & (λ a b c t. matches_keeps P acc s t.sound (t.next tt) _)
      & (λ a b c t. matches_keeps P acc s t.sound (t.next tt) _)
      & (λ a b c t. matches_keeps P acc s t.sound (t.next tt) _)
      & (λ a b c t. Unpack-keeps P acc s t.sound (t.next tt))
      & (λ a b c t. Reorder-keeps P acc s t.sound (t.next tt))
      & (λ a b c t. CopyInput-keeps P s t.sound (t.next tt) a (ltb→lt a P.inputs t.a_ok))
      & (λ a b c t. Consume-keeps P s t.sound (t.next tt) a (ltb→lt a P.inputs t.a_ok))
      & (λ a b c t. MaybeConsume-keeps P s t.sound (t.next tt) a (ltb→lt a P.inputs t.a_ok))
      & (λ a b c t. CheckOutputs-keeps P s t.sound (t.next tt))
      & (λ a b c t. Write-keeps P s t.sound (t.next tt) a (ltb→lt a P.outputs t.a_ok))
      & (λ a b c t. Schedule-keeps P s t.sound)
      & end

  -- The instruction at pc keeps soundness.
  pub deed_keeps : (s : State) → Sound P s → Keeps P s (deed P s.regs.pc s)
  deed_keeps s ok = dispatch P acc nar s (λ c f. Sound P (becomes s f)) (lawful s) ok

  -- Every instruction of the machine leads from a sound state to a sound state.
  pub sound_kept : (card : List ℕ) (s : State) (t : ℕ) (u : State) → Sound P s → (machine P card).act s ≡ goes t u
      → Sound P u
  sound_kept card s t u ok e =
      let w = went (λ c f. Sound P (becomes s f)) P card s t u (deed_keeps s ok) e in
      subst (Sound P) (sym w.state) w.holds

-- The machine starts in a sound state.
pub sound_start : (P : Program) → Accepted P → (wires order : List ℕ) → WiresFit P wires → OrderFits P order
    → Sound P (start P wires order)
unfolding start
sound_start P acc wires order w o =
    record {
      pc = acc.entry 0 acc.some_ruleset;
      rs = acc.some_ruleset;
      rp = omega arith;
      frames = bottom [] 0 refl (through_nil (Plain P []) (null_plain P []));
      order = o;
      wires = w;
    }
