-- Facts for the arms of the step: which opcode an arm is of, and what its fields are.
use Rattle.std.specs.Prelude.{Some, None}
use mathlib.Core.Path.{◌≡◌, sym, ap, ◌∙◌, subst}
use mathlib.Core.Bool.{false}
use Prim.Native.Nat.{ℕ, ◌+◌, ◌≤◌, ◌<◌}
use native.Mathlib.Omega.{arith}
use native.Mathlib.Decide.{ℕ_discrete}
use lib.Dec.{T, ltb→lt}
use Rattle.hume.specs.Numbers.{canonical}
use Rattle.hume.specs.Image.{Program}
use Rattle.hume.specs.Refusals.{field_ok, format, format_of}
use Rattle.hume.specs.State.{State, Deed}
use Rattle.hume.specs.Instructions.{mk_block, MkTuple, MkCon, Consume, MaybeConsume}
use Rattle.hume.specs.Machine.{instruction, charged}
use Rattle.laws.specs.Accepted.{InstructionFits}
use Rattle.engine.specs.Turns.{core, Buffers, Turned, Meets, priced}
use Rattle.engine.specs.Blocks.{making}
use Rattle.engine.specs.Outcomes.{Applies}
use Rattle.engine.specs.Attempts.{seeks}
use Rattle.engine.specs.declared.matching.Pattern.{Pattern}
use Rattle.engine.specs.Limits.{Limits}
use Rattle.engine.specs.declared.regs.Regs.{Regs}
use Rattle.engine.specs.declared.regs.Turn.{Turn}
use Rattle.engine.proofs.Opcodes.{op_1, op_2, op_3, op_5, op_6, op_19, op_20, op_21, op_27, op_28, op_29, op_30, op_31, op_32, op_37}
use Rattle.engine.proofs.Building.{mk_bool_lem, mk_int_lem, mk_float_lem}
use Rattle.engine.proofs.Granted.{image_applies}
use Rattle.hume.specs.Instructions.{CallPrim1, CallPrim2, Raise, matches, MatchBool, MatchInt, MatchFloat, MatchTuple, MatchCon, MatchExn}

-- ---- the card

-- ---- what an arm does, by the function that serves several opcodes

module _ (op : ℕ) (P : Program) (a b c : ℕ) (s : State) where
  pub makes_bool : op ≡ 1 → instruction op P a b c s ≡ making 65536 c s
  makes_bool e = op_1 op P a b c s e ∙ mk_bool_lem c s

  pub makes_int : op ≡ 2 → instruction op P a b c s ≡ making 131072 c s
  makes_int e = op_2 op P a b c s e ∙ mk_int_lem c s

  pub makes_float : (v : ℕ) → v ≡ canonical c → op ≡ 3 → instruction op P a b c s ≡ making 196608 v s
  makes_float v k e = op_3 op P a b c s e ∙ mk_float_lem c s ∙ ap (λ (x : ℕ). making 196608 x s) (sym k)

  pub makes_tuple : op ≡ 5 → instruction op P a b c s ≡ mk_block 262144 a s
  unfolding MkTuple
  makes_tuple e = op_5 op P a b c s e

  pub makes_con : op ≡ 6 → instruction op P a b c s ≡ mk_block (327680 + b) a s
  unfolding MkCon
  makes_con e = op_6 op P a b c s e

  pub matches_bool : {p : Pattern} → p ≡ record { header = 65536; second = Some c } → op ≡ 27
      → instruction op P a b c s ≡ matches P (seeks p) s
  unfolding MatchBool seeks
  matches_bool f e = op_27 op P a b c s e ∙ ap (λ (p : Pattern). matches P (seeks p) s) (sym f)

  pub matches_int : {p : Pattern} → p ≡ record { header = 131072; second = Some c } → op ≡ 28
      → instruction op P a b c s ≡ matches P (seeks p) s
  unfolding MatchInt seeks
  matches_int f e = op_28 op P a b c s e ∙ ap (λ (p : Pattern). matches P (seeks p) s) (sym f)

  pub matches_float : {p : Pattern} (v : ℕ) → v ≡ canonical c → p ≡ record { header = 196608; second = Some v } → op ≡ 29
      → instruction op P a b c s ≡ matches P (seeks p) s
  unfolding MatchFloat seeks
  matches_float v k f e =
      op_29 op P a b c s e
      ∙ ap (λ (x : ℕ). matches P (seeks (record { header = 196608; second = Some x })) s) (sym k)
      ∙ ap (λ (p : Pattern). matches P (seeks p) s) (sym f)

  pub matches_tuple : {p : Pattern} → p ≡ record { header = 262144; second = Some a } → op ≡ 30
      → instruction op P a b c s ≡ matches P (seeks p) s
  unfolding MatchTuple seeks
  matches_tuple f e = op_30 op P a b c s e ∙ ap (λ (p : Pattern). matches P (seeks p) s) (sym f)

  pub matches_con : {p : Pattern} → p ≡ record { header = 327680 + b; second = Some a } → op ≡ 31
      → instruction op P a b c s ≡ matches P (seeks p) s
  unfolding MatchCon seeks
  matches_con f e = op_31 op P a b c s e ∙ ap (λ (p : Pattern). matches P (seeks p) s) (sym f)

  pub matches_exn : {p : Pattern} → p ≡ record { header = 393216 + b; second = None } → op ≡ 32
      → instruction op P a b c s ≡ matches P (seeks p) s
  unfolding MatchExn seeks
  matches_exn f e = op_32 op P a b c s e ∙ ap (λ (p : Pattern). matches P (seeks p) s) (sym f)

  pub consumes_maybe : op ≡ 37 → instruction op P a b c s ≡ Consume a s
  unfolding MaybeConsume
  consumes_maybe e = op_37 op P a b c s e

meets_as : {lim : Limits} {r : Regs} {b b' : Buffers} {q : Turn} (cost : ℕ) (d e : State → Deed) → ((s : State) → d s ≡ e s)
    → Meets lim r b (priced cost e) q b' → Meets lim r b (priced cost d) q b'
meets_as {lim} {r} {b} {b'} {q} cost d e p m =
    record {
      each = λ ws hs h v u.
          subst (λ (x : Deed). Turned lim r b (charged cost (core r ws hs b.wires b.order false) x) q b')
          (sym (p (core r ws hs b.wires b.order false))) (m.each ws hs h v u);
    }

pub applies : {lim : Limits} {r : Regs} {w w' : Buffers} {q : Turn} (cost op : ℕ) (P : Program) (a b c : ℕ) → 19 ≤ op → op < 22
    → (op ≡ 19 → Meets lim r w (priced cost (CallPrim1 P a)) q w') → (op ≡ 20 → Meets lim r w (priced cost (CallPrim2 P a)) q w')
    → (op ≡ 21 → Meets lim r w (priced cost (Raise P b)) q w') → Meets lim r w (priced cost (instruction op P a b c)) q w'
applies {lim} {r} {w} {w'} {q} cost op P a b c l h f g k = by (ℕ_discrete op 19) (ℕ_discrete op 20)
  where
    by : Dec (op ≡ 19) → Dec (op ≡ 20) → Meets lim r w (priced cost (instruction op P a b c)) q w'
    by (yes e) d = meets_as cost (instruction op P a b c) (CallPrim1 P a) (λ s. op_19 op P a b c s e) (f e)
    by (no n) (yes e) = meets_as cost (instruction op P a b c) (CallPrim2 P a) (λ s. op_20 op P a b c s e) (g e)
    by (no n) (no m) =
        let e : op ≡ 21 = omega arith in
        meets_as cost (instruction op P a b c) (Raise P b) (λ s. op_21 op P a b c s e) (k e)

-- ---- the fields

module _ (P : Program) (k : ℕ) (f : InstructionFits P k) where
  pub a_callee : P.opcode k ≡ 17 → P.arg_a k < P.rulesets
  unfolding format_of format field_ok
  a_callee e = ltb→lt (P.arg_a k) P.rulesets (subst (λ (o : ℕ). T (field_ok P (format_of o).a (P.arg_a k))) e f.a)

  pub a_input : P.opcode k ≡ 35 → P.arg_a k < P.inputs
  unfolding format_of format field_ok
  a_input e = ltb→lt (P.arg_a k) P.inputs (subst (λ (o : ℕ). T (field_ok P (format_of o).a (P.arg_a k))) e f.a)

  pub a_consumed : 36 ≤ P.opcode k → P.opcode k < 38 → P.arg_a k < P.inputs
  unfolding format_of format field_ok
  a_consumed l h = by (ℕ_discrete (P.opcode k) 36)
    where
      by : Dec (P.opcode k ≡ 36) → P.arg_a k < P.inputs
      by (yes e) = ltb→lt (P.arg_a k) P.inputs (subst (λ (o : ℕ). T (field_ok P (format_of o).a (P.arg_a k))) e f.a)
      by (no n) =
          let e : P.opcode k ≡ 37 = omega arith in
          ltb→lt (P.arg_a k) P.inputs (subst (λ (o : ℕ). T (field_ok P (format_of o).a (P.arg_a k))) e f.a)

  pub a_output : P.opcode k ≡ 39 → P.arg_a k < P.outputs
  unfolding format_of format field_ok
  a_output e = ltb→lt (P.arg_a k) P.outputs (subst (λ (o : ℕ). T (field_ok P (format_of o).a (P.arg_a k))) e f.a)

  -- the same of numbers that are read
  pub applies_at : {op a : ℕ} → op ≡ P.opcode k → a ≡ P.arg_a k → 19 ≤ op → op < 22 → Applies op a
  applies_at {op} {a} e g l h =
      subst (λ (o : ℕ). Applies o a) (sym e)
      (subst (λ (x : ℕ). Applies (P.opcode k) x) (sym g)
      (image_applies P k f (omega (arith, e, l)) (omega (arith, e, h))))

  pub consuming_at : {op a : ℕ} → op ≡ P.opcode k → a ≡ P.arg_a k → 36 ≤ op → op < 38 → a < P.inputs + P.outputs
  consuming_at e g l h = let x = a_consumed (omega (arith, e, l)) (omega (arith, e, h)) in omega (arith, x, g)

  pub input_at : {a : ℕ} → P.opcode k ≡ 35 → a ≡ P.arg_a k → a < P.inputs + P.outputs
  input_at e g = omega (arith, a_input e, g)

  pub output_at_lem : {a i : ℕ} → P.opcode k ≡ 39 → a ≡ P.arg_a k → i ≡ P.inputs → i + a < P.inputs + P.outputs
  output_at_lem e g h = omega (arith, a_output e, g, h)
