-- Document 01, "The instructions": one definition for each, in its order, with the faults in theirs: "Faults, lowest first".
use Rattle.std.specs.Prelude.{Bool, true, false, not, ◌&&◌, ◌||◌, List, [], ◌∷◌, ◌++◌, ℕ, zero, suc, ◌+◌, ◌-◌, ◌/◌, ◌%◌, leb, ltb, eqb, length, get_or, set, take, drop, replicate}
use Rattle.limits.specs.Machine.{ends, goes}
use Rattle.hume.specs.Tests.{pick, all}
use Rattle.hume.specs.Words.{Word, null, none, ret, rules, static, link, raw, is_null, is_ref, is_none, is_value}
use Rattle.hume.specs.Words.{bool_header, int_header, float_header, tuple_header, constr_header, exn_header}
use Rattle.hume.specs.Numbers.{canonical}
use Rattle.hume.specs.Primitives.{Yield, value, raises, Primitive, prim1, prim2}
use Rattle.hume.specs.Values.{placed, refers, row, first, spread, is_empty, wire_words, set_wire}
use Rattle.hume.specs.Image.{Program, order_at}
use Rattle.hume.specs.State.{Regs, State, sp, hp, locals, lp, values, below, downward, without, number_at, is_cell, second, rule_at, rule_count}
use Rattle.hume.specs.State.{blocked, Deed, need, at, next, leaving, turns, stacks, builds, rewires, fails, raise}

-- ---- heap objects

-- "1 MkBool c [+1]": "Bool, Int, Float 2" heap words
unfoldable pub MkBool : ℕ → State → Deed
MkBool c s = builds s 0 s.stack (raw bool_header ∷ raw c ∷ [])

-- "2 MkInt c (two's complement) [+1]"
unfoldable pub MkInt : ℕ → State → Deed
MkInt c s = builds s 0 s.stack (raw int_header ∷ raw c ∷ [])

-- "3 MkFloat c (bits) [+1]": "any NaN stored is 7FC00000"
unfoldable pub MkFloat : ℕ → State → Deed
MkFloat c s = builds s 0 s.stack (raw float_header ∷ raw (canonical c) ∷ [])

-- "4 MkNone [+1]": "MkNone and None take no heap"
unfoldable pub MkNone : State → Deed
MkNone s = stacks s (s.stack ++ none ∷ [])

-- a object of the header h and a fields from the stack: "field 0 is the top word; each field a reference or None"
unfoldable pub mk_block : ℕ → ℕ → State → Deed
mk_block h a s =
    need (leb a (values s)) 1
    (need (all is_value (downward s.stack 0 a)) 2
    (builds s 0 (without a s.stack) (raw h ∷ raw a ∷ downward s.stack 0 a)))

-- "5 MkTuple a [1-a]": "Tuple and Constr 2 + n" heap words
unfoldable pub MkTuple : ℕ → State → Deed
MkTuple a s = mk_block tuple_header a s

-- "6 MkCon a fields, tag b [1-a]"
unfoldable pub MkCon : ℕ → ℕ → State → Deed
MkCon a b s = mk_block (constr_header b) a s

-- ---- the stack

-- "7 Push a nulls [+a]"
unfoldable pub Push : ℕ → State → Deed
Push a s = stacks s (s.stack ++ replicate a null)

-- "8 Pop a [-a]"
unfoldable pub Pop : ℕ → State → Deed
Pop a s = need (leb a (values s)) 1 (stacks s (without a s.stack))

-- "9 Slide a [-a] keeps the top"; "Slide a and Copy a need a + 1"
unfoldable pub Slide : ℕ → State → Deed
Slide a s = need (leb (a + 1) (values s)) 1 (stacks s (without (a + 1) s.stack ++ below s.stack 0 ∷ []))

-- "10 Copy a: the word a below the top [+1]"
unfoldable pub Copy : ℕ → State → Deed
Copy a s = need (leb (a + 1) (values s)) 1 (stacks s (s.stack ++ below s.stack a ∷ []))

-- the argument k: "the word at fp-5-k"
unfoldable pub argument : State → ℕ → Word
argument s k = get_or s.stack (s.regs.fp - (5 + k)) null

-- "fp below 5 plus its number"
unfoldable pub has_argument : State → ℕ → Bool
has_argument s k = leb (5 + k) s.regs.fp

-- "11 CopyArg a: the word at fp-5-a [+1]"; "CopyArg copies only null, a reference or None"
unfoldable pub CopyArg : ℕ → State → Deed
CopyArg a s =
    need (has_argument s a) 3
    (need (is_null (argument s a) || is_value (argument s a)) 2 (stacks s (s.stack ++ argument s a ∷ [])))

-- "12 CreateFrame a [+a+1]: needs 3 values; pushes the frame link, sets fp to the new sp, pushes a nulls"; "4 CreateFrame without
-- 3 values"
unfoldable pub CreateFrame : ℕ → State → Deed
CreateFrame a s =
    need (leb 3 (values s)) 4
    (goes 0
    (leaving s
    (record {
      pc = s.regs.pc + 1;
      fp = sp s + 1;
      slp = s.regs.slp;
      rp = s.regs.rp;
      mp = s.regs.mp;
      inp = s.regs.inp;
      rs = s.regs.rs;
    })
    (s.stack ++ link s.regs.fp a ∷ replicate a null)
    []))

-- "no such local (a at least n)"
unfoldable pub has_local : State → ℕ → Bool
has_local s a = ltb a (locals s.regs.fp s.stack)

-- "13 PushVar a [+1]": the local a is the word at fp + a
unfoldable pub PushVar : ℕ → State → Deed
PushVar a s = need (has_local s a) 3 (stacks s (s.stack ++ get_or s.stack (s.regs.fp + a) null ∷ []))

-- "14 MakeVar a [-1]"
unfoldable pub MakeVar : ℕ → State → Deed
MakeVar a s =
    need (leb 1 (values s)) 1
    (need (has_local s a) 3 (stacks s (without 1 (set s.stack (s.regs.fp + a) (below s.stack 0)))))

-- ---- control

-- "15 Goto b"
unfoldable pub Goto : ℕ → State → Deed
Goto b s = turns s (at b s.regs)

-- "16 If b [-1] jumps on true"
unfoldable pub If : ℕ → State → Deed
If b s =
    need (leb 1 (values s)) 1
    (need (is_cell s.heap (below s.stack 0) bool_header) 2
    (goes 0
    (leaving s
    (pick (eqb (second s.heap (below s.stack 0)) 1) (at b s.regs) (next s.regs))
    (without 1 s.stack)
    [])))

-- "17 Call a [+3]: return address, ruleset word, static link of slp; slp becomes the new sp + 1, rp 0, pc the entry"
unfoldable pub Call : Program → ℕ → State → Deed
Call P a s =
    goes 0
    (leaving s
    (record {
      pc = P.entry a;
      fp = s.regs.fp;
      slp = sp s + 3 + 1;
      rp = 0;
      mp = s.regs.mp;
      inp = s.regs.inp;
      rs = a;
    })
    (s.stack ++ ret (s.regs.pc + 1) ∷ rules s.regs.rs s.regs.rp ∷ static s.regs.slp ∷ [])
    [])

-- the word k below fp
unfoldable pub saved : State → ℕ → Word
saved s k = get_or s.stack (s.regs.fp - k) null

-- "Return where a saved word has the wrong type or fp is 0"
unfoldable pub frame_ok : State → Bool
frame_ok s =
    not (eqb s.regs.fp 0)
    && (eqb (saved s 4).type 3
    && (eqb (saved s 3).type 4 && (eqb (saved s 2).type 5 && eqb (saved s 1).type 6)))

-- "18 Return: the top word goes to fp-4, sp becomes fp-3, and the four saved words are restored"
unfoldable pub Return : State → Deed
Return s =
    need (leb 1 (values s)) 1
    (need (frame_ok s) 4
    (goes 0
    (leaving s
    (record {
      pc = (saved s 4).payload;
      fp = (saved s 1).payload / 256;
      slp = (saved s 2).payload;
      rp = (saved s 3).payload % 256;
      mp = s.regs.mp;
      inp = s.regs.inp;
      rs = (saved s 3).payload / 256;
    })
    (take (s.regs.fp - 4) s.stack ++ below s.stack 0 ∷ [])
    [])))

-- a primitive's result in the place of its n operands: "result 2 heap words; cycles from Table 5 added to the card's"; "A raising
-- primitive costs its own time, 3 heap words, and the stack becomes that of Raise."
unfoldable pub yielded : Program → State → ℕ → Primitive → Yield → Deed
yielded P s n p (value x) = builds s p.cycles (without n s.stack) (raw p.gives ∷ raw x ∷ [])
yielded P s n p (raises e) = raise P s p.cycles e none

-- the payload of the operand i below the top, and whether it is of the kind that the primitive takes
unfoldable pub operand : State → ℕ → ℕ
operand s i = second s.heap (below s.stack i)

unfoldable pub operand_ok : State → Primitive → ℕ → Bool
operand_ok s p i = is_cell s.heap (below s.stack i) p.takes

-- "19 CallPrim1 a [0]"
unfoldable pub CallPrim1 : Program → ℕ → State → Deed
CallPrim1 P a s =
    need (leb 1 (values s)) 1
    (need (operand_ok s (prim1 a) 0) 2 (yielded P s 1 (prim1 a) ((prim1 a).yields (operand s 0) 0)))

-- "20 CallPrim2 a [-1]", "the top word being the first operand"
unfoldable pub CallPrim2 : Program → ℕ → State → Deed
CallPrim2 P a s =
    need (leb 2 (values s)) 1
    (need (operand_ok s (prim2 a) 0 && operand_ok s (prim2 a) 1) 2
    (yielded P s 2 (prim2 a) ((prim2 a).yields (operand s 0) (operand s 1))))

-- "21 Raise b: makes Exn b of the top value (reference or None)"
unfoldable pub Raise : Program → ℕ → State → Deed
Raise P b s =
    need (leb 1 (values s)) 1
    (need (is_value (below s.stack 0)) 2 (raise P s 0 b (below s.stack 0)))

-- ---- matching

-- "22 StartMatches: to the current ruleset's rule at order 0"
unfoldable pub StartMatches : Program → State → Deed
StartMatches P s = turns s (at (rule_at P s 0) s.regs)

-- "23 MatchRule: rp + 1, mp and inp 0, values dropped"; "7 MatchRule with rp at the count"
unfoldable pub MatchRule : Program → State → Deed
MatchRule P s =
    need (ltb s.regs.rp (rule_count P s)) 7
    (goes 0
    (leaving s
    (record {
      pc = s.regs.pc + 1;
      fp = s.regs.fp;
      slp = s.regs.slp;
      rp = s.regs.rp + 1;
      mp = 0;
      inp = 0;
      rs = s.regs.rs;
    })
    (take (lp s) s.stack)
    []))

-- "24 MatchedRule: values dropped"
unfoldable pub MatchedRule : State → Deed
MatchedRule s = stacks s (take (lp s) s.stack)

-- the registers with mp and inp moved on by so much
abbrev pub moved : Regs → ℕ → ℕ → Regs
moved r m i =
    record {
      pc = r.pc;
      fp = r.fp;
      slp = r.slp;
      rp = r.rp;
      mp = r.mp + m;
      inp = r.inp + i;
      rs = r.rs;
    }

-- "25 MatchNone: mp + 1, inp + 1"
unfoldable pub MatchNone : State → Deed
MatchNone s = turns s (next (moved s.regs 1 1))

-- "26 MatchAvailable: inp + 1, fails if that input is empty"; "input (inp at least their number)"
unfoldable pub MatchAvailable : Program → State → Deed
MatchAvailable P s =
    need (ltb s.regs.inp P.inputs) 3
    (pick (is_empty s.wires s.regs.inp) (fails P s (moved s.regs 0 1)) (turns s (next (moved s.regs 0 1))))

-- "argument mp, the word at fp-5-mp, then mp + 1"; "a cell of another kind, or None, only fails a match"
unfoldable pub matches : Program → (List Word → Word → Bool) → State → Deed
matches P test s =
    need (has_argument s s.regs.mp) 3
    (need (is_value (argument s s.regs.mp)) 2
    (pick (test s.heap (argument s s.regs.mp))
    (turns s (next (moved s.regs 1 0)))
    (fails P s (moved s.regs 1 0))))

-- a cell of the header h whose payload or size is x
unfoldable pub cell_is : ℕ → ℕ → List Word → Word → Bool
cell_is h x hs w = is_cell hs w h && eqb (second hs w) x

-- "27 MatchBool c"
unfoldable pub MatchBool : Program → ℕ → State → Deed
MatchBool P c s = matches P (cell_is bool_header c) s

-- "28 MatchInt c"
unfoldable pub MatchInt : Program → ℕ → State → Deed
MatchInt P c s = matches P (cell_is int_header c) s

-- "29 MatchFloat c": "floats by their bits, a NaN c read as 7FC00000"
unfoldable pub MatchFloat : Program → ℕ → State → Deed
MatchFloat P c s = matches P (cell_is float_header (canonical c)) s

-- "30 MatchTuple a"
unfoldable pub MatchTuple : Program → ℕ → State → Deed
MatchTuple P a s = matches P (cell_is tuple_header a) s

-- "31 MatchCon a, tag b"
unfoldable pub MatchCon : Program → ℕ → ℕ → State → Deed
MatchCon P a b s = matches P (cell_is (constr_header b) a) s

-- "32 MatchExn b"
unfoldable pub MatchExn : Program → ℕ → State → Deed
MatchExn P b s = matches P (λ hs w. is_cell hs w (exn_header b)) s

-- the word refers to a Tuple or a Constr
unfoldable pub is_tuple_or_constr : List Word → Word → Bool
is_tuple_or_constr hs w =
    is_ref w && (eqb (number_at hs w.payload 0) tuple_header || eqb (number_at hs w.payload 0 / 65536) 5)

-- "33 Unpack: pops a Tuple or Constr, pushes field 0 first"
unfoldable pub Unpack : State → Deed
Unpack s =
    need (leb 1 (values s)) 1
    (need (is_tuple_or_constr s.heap (below s.stack 0)) 2
    (stacks s
    (without 1 s.stack
    ++ take (second s.heap (below s.stack 0)) (drop ((below s.stack 0).payload + 2) s.heap))))

-- the number at i goes to the place before j, those between move down one
unfoldable pub move_last : List ℕ → ℕ → ℕ → List ℕ
move_last l i j = take i l ++ (take (j - (i + 1)) (drop (i + 1) l) ++ get_or l i 0 ∷ drop j l)

-- "34 Reorder: the rule at order position rp goes last, those after it move down one; with rp = count, nothing"
unfoldable pub reordered : Program → State → List ℕ
reordered P s =
    pick (ltb s.regs.rp (rule_count P s))
    (move_last s.order (order_at P s.regs.rs + s.regs.rp) (order_at P s.regs.rs + rule_count P s))
    s.order

unfoldable pub Reorder : Program → State → Deed
Reorder P s =
    goes 0
    (record {
      regs = next s.regs;
      stack = s.stack;
      grown = [];
      wires = s.wires;
      order = reordered P s;
      done = false;
    })

-- ---- wires

-- "35 CopyInput a [+1]": "CopyInput costs the words it places"; "8 CopyInput from an empty wire"
unfoldable pub CopyInput : ℕ → State → Deed
CopyInput a s =
    need (not (is_empty s.wires a)) 8
    (goes 0
    (leaving s (next s.regs)
    (s.stack ++ refers (first (row (wire_words s.wires a))) (hp s) ∷ [])
    (placed (first (row (wire_words s.wires a))) (hp s))))

-- "36 Consume a and 37 MaybeConsume a (empty the wire)"
unfoldable pub Consume : ℕ → State → Deed
Consume a s = rewires s s.stack (set_wire s.wires a [])

unfoldable pub MaybeConsume : ℕ → State → Deed
MaybeConsume a s = Consume a s

-- "Wires: .. inputs first": where the output i is
unfoldable pub output_at : Program → ℕ → ℕ
output_at P i = P.inputs + i

-- output i holds the box up: its value "isn't None and its wire is full"
unfoldable pub holds_up : Program → State → ℕ → Bool
holds_up P s i = not (is_none (below s.stack i)) && not (is_empty s.wires (output_at P i))

-- "blocked if one isn't None and its wire is full (the lowest such i)": the n outputs from i on
unfoldable pub checked : Program → State → ℕ → ℕ → Deed
checked P s i zero = turns s (next s.regs)
checked P s i (suc n) = pick (holds_up P s i) (ends (blocked i)) (checked P s (i + 1) n)

-- "38 CheckOutputs: output i is the value i below the top"; "CheckOutputs one per output"
unfoldable pub CheckOutputs : Program → State → Deed
CheckOutputs P s =
    need (leb P.outputs (values s)) 1
    (need (all is_value (downward s.stack 0 P.outputs)) 2 (checked P s 0 P.outputs))

-- "39 Write a [-1]: None writes nothing"; "5 Write of a reference to a full wire; 6 value over 64 wire words"
unfoldable pub Write : Program → ℕ → State → Deed
Write P a s =
    need (leb 1 (values s)) 1
    (need (is_value (below s.stack 0)) 2
    (pick (is_none (below s.stack 0)) (stacks s (without 1 s.stack))
    (need (is_empty s.wires (output_at P a)) 5
    (need (leb (length (spread s.heap (below s.stack 0))) 64) 6
    (rewires s (without 1 s.stack) (set_wire s.wires (output_at P a) (spread s.heap (below s.stack 0))))))))

-- "40 Schedule: finished"; "Schedule is charged and pc stays on it."
unfoldable pub Schedule : State → Deed
Schedule s =
    goes 0
    (record { regs = s.regs; stack = s.stack; grown = []; wires = s.wires; order = s.order; done = true })

-- ---- by opcode

-- an instruction from its fields a, b and c
abbrev pub Instruction : Type 0
Instruction = Program → ℕ → ℕ → ℕ → State → Deed

unfoldable pub instructions : List Instruction
instructions =
    (λ P a b c. MkBool c)
    ∷ (λ P a b c. MkInt c)
    ∷ (λ P a b c. MkFloat c)
    ∷ (λ P a b c. MkNone)
    ∷ (λ P a b c. MkTuple a)
    ∷ (λ P a b c. MkCon a b)
    ∷ (λ P a b c. Push a)
    ∷ (λ P a b c. Pop a)
    ∷ (λ P a b c. Slide a)
    ∷ (λ P a b c. Copy a)
    ∷ (λ P a b c. CopyArg a)
    ∷ (λ P a b c. CreateFrame a)
    ∷ (λ P a b c. PushVar a)
    ∷ (λ P a b c. MakeVar a)
    ∷ (λ P a b c. Goto b)
    ∷ (λ P a b c. If b)
    ∷ (λ P a b c. Call P a)
    ∷ (λ P a b c. Return)
    ∷ (λ P a b c. CallPrim1 P a)
    ∷ (λ P a b c. CallPrim2 P a)
    ∷ (λ P a b c. Raise P b)
    ∷ (λ P a b c. StartMatches P)
    ∷ (λ P a b c. MatchRule P)
    ∷ (λ P a b c. MatchedRule)
    ∷ (λ P a b c. MatchNone)
    ∷ (λ P a b c. MatchAvailable P)
    ∷ (λ P a b c. MatchBool P c)
    ∷ (λ P a b c. MatchInt P c)
    ∷ (λ P a b c. MatchFloat P c)
    ∷ (λ P a b c. MatchTuple P a)
    ∷ (λ P a b c. MatchCon P a b)
    ∷ (λ P a b c. MatchExn P b)
    ∷ (λ P a b c. Unpack)
    ∷ (λ P a b c. Reorder P)
    ∷ (λ P a b c. CopyInput a)
    ∷ (λ P a b c. Consume a)
    ∷ (λ P a b c. MaybeConsume a)
    ∷ (λ P a b c. CheckOutputs P)
    ∷ (λ P a b c. Write P a)
    ∷ (λ P a b c. Schedule)
    ∷ []
