-- From a law for each entry of the table of instructions to a law of the instruction at pc.
use mathlib.Core.Path.{◌≡◌, subst}
use mathlib.Core.Bool.{Bool, not, ◌||◌}
use Prim.Native.Nat.{ℕ, suc, ◌+◌, ◌-◌, ◌^◌, ◌≤◌, ◌<◌}
use native.Mathlib.Decide.{dec_le}
use native.Mathlib.Omega.{arith}
use lib.Dec.{T, eqb, T_not}
use Rattle.hume.specs.Image.{Program}
use Rattle.hume.specs.Refusals.{field_ok, format_of, last_ok}
use Rattle.hume.specs.State.{State, Effect}
use Rattle.hume.specs.Instructions.{Instruction, instructions}
use Rattle.hume.specs.Machine.{no_instruction, instruction, deed}
use Rattle.laws.specs.Accepted.{Accepted, Narrow}
use Rattle.reach.specs.Sound.{Sound}
use Rattle.reach.proofs.Deeds.{Each}
use Rattle.reach.proofs.Tables.{Table, table_at}

-- "The last instruction is Goto, Return, Raise or Schedule."
abbrev pub is_last : ℕ → Bool
is_last op = eqb op 15 || (eqb op 18 || (eqb op 21 || eqb op 40))

module _ (P : Program) (acc : Accepted P) (nar : Narrow P) (s : State) where
  -- What is known where an instruction of the opcode op with the fields a, b and c stands at pc.
  pub record Turn (op a b c : ℕ) : Type 0 where
    pub sound : Sound P s
    pub next : T (not (is_last op)) → s.regs.pc + 1 < P.size
    pub a_lt : a < 256
    pub b_lt : b < 65536
    pub c_lt : c < 2 ^ 32
    pub a_ok : T (field_ok P (format_of op).a a)
    pub b_ok : T (field_ok P (format_of op).b b)
    pub c_ok : T (field_ok P (format_of op).c c)

  -- An instruction may not be the last, so another follows it.
  following : (k : ℕ) → k < P.size → T (not (is_last (P.opcode k))) → k + 1 < P.size
  unfolding last_ok
  following k h t = by (dec_le (suc (k + 1)) P.size)
    where
      by : Dec (suc (k + 1) ≤ P.size) → k + 1 < P.size
      by (yes l) = l
      by (no l) =
          let e : P.size - 1 ≡ k = omega arith in
          absurd (T_not (is_last (P.opcode k)) t (subst (λ (i : ℕ). T (is_last (P.opcode i))) e acc.last))

  turn : Sound P s
      → Turn (P.opcode s.regs.pc) (P.arg_a s.regs.pc) (P.arg_b s.regs.pc) (P.arg_c s.regs.pc)
  turn ok =
      let f = acc.instruction s.regs.pc ok.pc in
      record {
        sound = ok;
        next = following s.regs.pc ok.pc;
        a_lt = nar.a s.regs.pc;
        b_lt = nar.b s.regs.pc;
        c_lt = nar.c s.regs.pc;
        a_ok = f.a;
        b_ok = f.b;
        c_ok = f.c;
      }

  module _ (Q : ℕ → Effect → Type 0) where
    -- Q holds of whatever the instruction of this opcode does.
    abbrev pub Lawful : ℕ → Instruction → Type 0
    Lawful op i = (a b c : ℕ) → Turn op a b c → Each Q (i P a b c s)

    -- With a law for each opcode, Q holds of whatever the instruction at pc does.
    pub dispatch : Table Lawful 1 instructions → Sound P s → Each Q (deed P s.regs.pc s)
    unfolding deed instruction instructions
    dispatch table ok =
        let k = s.regs.pc in
        let f = acc.instruction k ok.pc in
        let least : 1 ≤ P.opcode k = f.least in
        let most : P.opcode k ≤ 40 = f.most in
        table_at Lawful no_instruction instructions 1 table (P.opcode k - 1) (P.opcode k) (omega arith) (omega arith)
        (P.arg_a k) (P.arg_b k) (P.arg_c k) (turn ok)
