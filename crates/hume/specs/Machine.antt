-- Document 01, "How a run ends": the unlimited machine, and where it starts.
use Rattle.std.specs.Prelude.{Bool, true, false, List, [], ◌++◌, ℕ, ◌+◌, ◌-◌, get_or}
use Rattle.limits.specs.Machine.{Act, ends, goes, Machine}
use Rattle.hume.specs.Image.{Program}
use Rattle.hume.specs.State.{State, sp, hp, End, finished, fault, Effect, Deed}
use Rattle.hume.specs.Instructions.{Instruction, instructions}

-- No accepted image has an opcode outside the table, and no state that is reached has its pc outside the image.
abbrev pub no_instruction : Instruction
no_instruction P a b c s = ends (fault 0)

unfoldable pub instruction : ℕ → Instruction
instruction op = get_or instructions (op - 1) no_instruction

-- the instruction at pc
unfoldable pub deed : Program → ℕ → State → Deed
deed P pc s = instruction (P.opcode pc) P (P.arg_a pc) (P.arg_b pc) (P.arg_c pc) s

abbrev pub becomes : State → Effect → State
becomes s f =
    record {
      regs = f.regs;
      stack = f.stack;
      heap = s.heap ++ f.grown;
      wires = f.wires;
      order = f.order;
      done = f.done;
    }

-- "cycles from Table 5 added to the card's"; "endings 1 to 4 first, uncharged"
unfoldable pub charged : ℕ → State → Deed → Act State End
charged c s (ends e) = ends e
charged c s (goes cycles f) = goes (c + cycles) (becomes s f)

-- "one per opcode"
unfoldable pub price : List ℕ → ℕ → ℕ
price card op = get_or card (op - 1) 1

unfoldable pub acts : Bool → Program → List ℕ → State → Act State End
acts true P card s = ends finished
acts false P card s = charged (price card (P.opcode s.regs.pc)) s (deed P s.regs.pc s)

-- The machine of D04 with document 01's readings, and no limits.
unfoldable pub machine : Program → List ℕ → Machine State End
machine P card = record { act = λ s. acts s.done P card s; depth = sp; heap = hp }

-- "Registers start at 0 ..; the ruleset is 0, pc its entry. .. Both areas are zeroed at the start"
unfoldable pub start : Program → List ℕ → List ℕ → State
start P wires order =
    record {
      regs = record { pc = P.entry 0; fp = 0; slp = 0; rp = 0; mp = 0; inp = 0; rs = 0 };
      stack = [];
      heap = [];
      wires = wires;
      order = order;
      done = false;
    }
