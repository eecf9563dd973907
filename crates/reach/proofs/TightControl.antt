-- Instructions 15 to 34 within the caps: control and matching.
use mathlib.Core.Path.{◌≡◌, refl}
use mathlib.Core.Bool.{Bool, not, ◌&&◌}
use mathlib.Core.List.{List, [], ◌∷◌, ◌++◌}
use Prim.Native.Nat.{ℕ, ◌+◌, ◌-◌, ◌*◌, ◌≤◌, ◌<◌}
use native.Mathlib.Omega.{arith}
use lib.Dec.{leb, ltb, eqb, eqb→eq}
use lib.ListN.{length, take, drop, length-append}
use Rattle.hume.specs.Words.{Word, null, none, ref, ret, rules, static, link, is_value, bool_header, exn_header}
use Rattle.hume.specs.Values.{is_empty}
use Rattle.hume.specs.Image.{Program}
use Rattle.hume.specs.Primitives.{Yield, value, raises, Primitive, prim1, prim2}
use Rattle.hume.specs.State.{Regs, State, sp, hp, lp, values, below, without, is_cell, second, rule_count, at, next, leaving, turns, raise}
use Rattle.hume.specs.Instructions.{Goto, If, Call, saved, frame_ok, Return, yielded, operand, operand_ok, CallPrim1, CallPrim2, Raise}
use Rattle.hume.specs.Instructions.{StartMatches, MatchRule, MatchedRule, moved, MatchNone, MatchAvailable, argument, has_argument, matches}
use Rattle.hume.specs.Instructions.{is_tuple_or_constr, Unpack, Reorder}
use Rattle.laws.specs.Accepted.{Accepted}
use Rattle.laws.specs.Sizes.{Small}
use Rattle.laws.proofs.Tests.{and_left, and_right}
use Rattle.laws.proofs.Small.{small_null, small_none}
use Rattle.laws.proofs.Values.{atom_header}
use Rattle.reach.specs.Sound.{Sound}
use Rattle.reach.proofs.Deeds.{Each, each_need, each_pick, of_pick}
use Rattle.reach.proofs.Lists.{through_one, through_cons, through_append, through_take, through_drop}
use Rattle.reach.proofs.Results.{YieldOk, prim1_ok, prim2_ok}
use Rattle.reach.proofs.Match.{FieldWord, there, past, unpacked}
use Rattle.reach.proofs.Fine.{Fine, fine_word, fine_null, fine_held, fines_push, fines_take, fines_without, fine_below, object_small, smalls_nil}
use Rattle.reach.proofs.Tight.{Tight, Stays, effect_tight, turns_tight, stacks_tight, fine_end, builds_tight, fails_tight}

-- a field, or the null past the last
field_fine : (hs : List Word) (w : Word) → Small w → FieldWord hs w → Fine w
field_fine hs w s (there o) = fine_held hs w s o
field_fine hs w s (past e) = rw e fine_null

module _ (P : Program) (acc : Accepted P) (n : ℕ) (s : State) (ok : Tight n s) where
  -- ---- control

  -- 15 Goto
  pub Goto-tight : (b : ℕ) → Each (Stays n s ok) (Goto b s)
  unfolding Goto
  Goto-tight b = turns_tight n s ok _ refl (omega arith) (omega arith) ok.stack refl ok.wires 0

  -- 16 If
  pub If-tight : (b : ℕ) → Each (Stays n s ok) (If b s)
  unfolding If
  If-tight b =
      each_need _ (leb 1 (values s)) 1 _ λ v.
      each_need _ (is_cell s.heap (below s.stack 0) bool_header) 2 _ λ t.
      let ws = without 1 s.stack in
      let f = fines_without 1 s.stack ok.stack in
      of_pick (λ (r : Regs). Stays n s ok 0 (leaving s r ws []))
      (eqb (second s.heap (below s.stack 0)) 1) (at b s.regs) (next s.regs)
      (turns_tight n s ok _ refl (omega arith) (omega arith) f refl ok.wires 0)
      (turns_tight n s ok _ refl (omega arith) (omega arith) f refl ok.wires 0)

  -- 17 Call
  pub Call-tight : Sound P s → (a : ℕ) → Each (Stays n s ok) (Call P a s)
  unfolding Call
  Call-tight sound a =
      λ x y.
      let r = s.regs in
      let new = ret (r.pc + 1) ∷ rules r.rs r.rp ∷ static r.slp ∷ [] in
      let pc : r.pc < P.size = sound.pc in
      let size : P.size ≤ 4096 = acc.size in
      let rs : r.rs < P.rulesets = sound.rs in
      let rulesets : P.rulesets ≤ 32 = acc.rulesets in
      let rp : r.rp ≤ P.count r.rs = sound.rp in
      let count : P.count r.rs ≤ 16 = acc.rules r.rs sound.rs in
      let slp : r.slp ≤ 4097 = ok.slp in
      let mp : r.mp ≤ n = ok.mp in
      let inp : r.inp ≤ n = ok.inp in
      let l : length (s.stack ++ new) ≡ sp s + 3 = length-append s.stack new in
      let z : length (s.stack ++ new) ≤ 4096 = x in
      effect_tight n s ok _ (omega arith) (omega arith) (omega arith)
      (through_append Fine s.stack new ok.stack
      (through_cons Fine (ret (r.pc + 1)) _ (fine_word 3 (r.pc + 1) (omega arith) (omega arith) (omega arith))
      (through_cons Fine (rules r.rs r.rp) _
      (fine_word 4 (r.rs * 256 + r.rp) (omega arith) (omega arith) (omega arith))
      (through_one Fine fine_null (static r.slp) (fine_word 5 r.slp (omega arith) (omega arith) (omega arith))))))
      smalls_nil ok.wires 0 x y

  -- 18 Return
  pub Return-tight : Each (Stays n s ok) (Return s)
  unfolding Return frame_ok saved
  Return-tight =
      each_need _ (leb 1 (values s)) 1 _ λ v.
      each_need _ (frame_ok s) 4 _ λ t.
      let b2 = eqb (saved s 2).type 5 in
      let t1 = and_right (not (eqb s.regs.fp 0)) _ t in
      let t2 = and_right (eqb (saved s 4).type 3) _ t1 in
      let t3 = and_right (eqb (saved s 3).type 4) _ t2 in
      let e = eqb→eq (saved s 2).type 5 (and_left b2 _ t3) in
      let mp : s.regs.mp ≤ n = ok.mp in
      let inp : s.regs.inp ≤ n = ok.inp in
      effect_tight n s ok _ ((ok.stack.each (s.regs.fp - 2)).static e) (omega arith) (omega arith)
      (fines_push (take (s.regs.fp - 4) s.stack) (below s.stack 0)
      (fines_take (s.regs.fp - 4) s.stack ok.stack) (fine_below s.stack 0 ok.stack))
      smalls_nil ok.wires 0

  -- ---- exceptions and primitives

  raise_tight : (cycles b : ℕ) (w : Word) → b < 65536 → Small w → Each (Stays n s ok) (raise P s cycles b w)
  unfolding raise
  raise_tight cycles b w l h =
      each_pick _ (eqb P.handler 255) _ _ (λ e. tt) λ k.
      let mp : s.regs.mp ≤ n = ok.mp in
      let inp : s.regs.inp ≤ n = ok.inp in
      let z = fine_null in
      effect_tight n s ok _ (omega arith) (omega arith) (omega arith)
      (through_cons Fine (ref (hp s)) _ (fine_end n s ok)
      (through_cons Fine null _ z
      (through_cons Fine null _ z
      (through_cons Fine null _ z
      (through_one Fine z (link 0 0) (fine_word 6 0 (omega arith) (omega arith) (omega arith)))))))
      (object_small (exn_header b) 1 (w ∷ []) (omega arith) (omega arith) (through_cons Small w [] h smalls_nil))
      ok.wires cycles

  yielded_tight : (k : ℕ) (p : Primitive) (y : Yield) → YieldOk p.gives y → Each (Stays n s ok) (yielded P s k p y)
  unfolding yielded
  yielded_tight k p (value x) h =
      let l : p.gives < 262144 = atom_header p.gives x h.0 in
      builds_tight n s ok p.cycles (without k s.stack) _ (fines_without k s.stack ok.stack)
      (object_small p.gives x [] (omega arith) h.1 smalls_nil)
  yielded_tight k p (raises e) h = raise_tight p.cycles e none h small_none

  -- 19 CallPrim1
  pub CallPrim1-tight : (a : ℕ) → Each (Stays n s ok) (CallPrim1 P a s)
  unfolding CallPrim1
  CallPrim1-tight a =
      each_need _ (leb 1 (values s)) 1 _ λ v.
      each_need _ (operand_ok s (prim1 a) 0) 2 _ λ t.
      yielded_tight 1 (prim1 a) _ (prim1_ok a (operand s 0) 0)

  -- 20 CallPrim2
  pub CallPrim2-tight : (a : ℕ) → Each (Stays n s ok) (CallPrim2 P a s)
  unfolding CallPrim2
  CallPrim2-tight a =
      each_need _ (leb 2 (values s)) 1 _ λ v.
      each_need _ (operand_ok s (prim2 a) 0 && operand_ok s (prim2 a) 1) 2 _ λ t.
      yielded_tight 2 (prim2 a) _ (prim2_ok a (operand s 0) (operand s 1))

  -- 21 Raise
  pub Raise-tight : (b : ℕ) → b < 65536 → Each (Stays n s ok) (Raise P b s)
  unfolding Raise
  Raise-tight b l =
      each_need _ (leb 1 (values s)) 1 _ λ v.
      each_need _ (is_value (below s.stack 0)) 2 _ λ t.
      raise_tight 0 b (below s.stack 0) l (fine_below s.stack 0 ok.stack).small

  -- ---- matching

  -- 22 StartMatches
  pub StartMatches-tight : Each (Stays n s ok) (StartMatches P s)
  unfolding StartMatches
  StartMatches-tight = turns_tight n s ok _ refl (omega arith) (omega arith) ok.stack refl ok.wires 0

  -- 23 MatchRule
  pub MatchRule-tight : Each (Stays n s ok) (MatchRule P s)
  unfolding MatchRule
  MatchRule-tight =
      each_need _ (ltb s.regs.rp (rule_count P s)) 7 _ λ t.
      turns_tight n s ok _ refl (omega arith) (omega arith) (fines_take (lp s) s.stack ok.stack) refl
      ok.wires 0

  -- 24 MatchedRule
  pub MatchedRule-tight : Each (Stays n s ok) (MatchedRule s)
  unfolding MatchedRule
  MatchedRule-tight = stacks_tight n s ok _ (fines_take (lp s) s.stack ok.stack)

  -- a match that goes on
  goes_on : (m i : ℕ) → m ≤ 1 → i ≤ 1 → Each (Stays n s ok) (turns s (next (moved s.regs m i)))
  goes_on m i h k = turns_tight n s ok _ refl (omega arith) (omega arith) ok.stack refl ok.wires 0

  -- 25 MatchNone
  pub MatchNone-tight : Each (Stays n s ok) (MatchNone s)
  unfolding MatchNone
  MatchNone-tight = goes_on 1 1 (omega arith) (omega arith)

  -- 26 MatchAvailable
  pub MatchAvailable-tight : Each (Stays n s ok) (MatchAvailable P s)
  unfolding MatchAvailable
  MatchAvailable-tight =
      each_need _ (ltb s.regs.inp P.inputs) 3 _ λ t.
      each_pick _ (is_empty s.wires s.regs.inp) _ _
      (λ e. fails_tight n s ok P 0 1 (omega arith) (omega arith)) λ e.
      goes_on 0 1 (omega arith) (omega arith)

  -- Instructions 27 to 32.
  pub matches_tight : (test : List Word → Word → Bool) → Each (Stays n s ok) (matches P test s)
  unfolding matches
  matches_tight test =
      each_need _ (has_argument s s.regs.mp) 3 _ λ h.
      each_need _ (is_value (argument s s.regs.mp)) 2 _ λ v.
      each_pick _ (test s.heap (argument s s.regs.mp)) _ _ (λ e. goes_on 1 0 (omega arith) (omega arith)) λ e.
      fails_tight n s ok P 1 0 (omega arith) (omega arith)

  -- 33 Unpack
  pub Unpack-tight : Sound P s → Each (Stays n s ok) (Unpack s)
  unfolding Unpack
  Unpack-tight sound =
      each_need _ (leb 1 (values s)) 1 _ λ v.
      each_need _ (is_tuple_or_constr s.heap (below s.stack 0)) 2 _ λ t.
      let w = below s.stack 0 in
      let k = second s.heap w in
      let hs = drop (w.payload + 2) s.heap in
      let small = through_take Small small_null k hs (through_drop Small (w.payload + 2) s.heap ok.heap) in
      stacks_tight n s ok _
      (through_append Fine (without 1 s.stack) (take k hs) (fines_without 1 s.stack ok.stack)
      (record { each = λ i. field_fine s.heap _ (small.each i) (unpacked P acc s sound v t i) }))

  -- 34 Reorder
  pub Reorder-tight : Each (Stays n s ok) (Reorder P s)
  unfolding Reorder
  Reorder-tight = turns_tight n s ok _ refl (omega arith) (omega arith) ok.stack refl ok.wires 0
