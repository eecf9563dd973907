-- Document 01, "Words and registers" and "How a run ends": the machine's state, what is read of it, and what an instruction
-- may do.
use Rattle.std.specs.Prelude.{Bool, true, false, ◌&&◌, List, [], ◌∷◌, ◌++◌, ℕ, zero, suc, ◌+◌, ◌-◌, ◌%◌, ltb, eqb, length, get_or, take}
use Rattle.limits.specs.Machine.{Act, ends, goes}
use Rattle.hume.specs.Tests.{pick}
use Rattle.hume.specs.Words.{Word, null, ref, link, raw, bits, is_ref, exn_header}
use Rattle.hume.specs.Image.{Program, order_at}

-- ---- the state

-- "Registers start at 0: sp, hp, fp, slp, rp, mp, inp; the ruleset is 0, pc its entry." sp and hp are the lengths of the stack
-- and the heap; rs is the current ruleset (001, Figure 1).
pub record Regs : Type 0 where
  pub pc : ℕ
  pub fp : ℕ
  pub slp : ℕ
  pub rp : ℕ
  pub mp : ℕ
  pub inp : ℕ
  pub rs : ℕ

-- The words of both areas are in the order of their places. `done` holds once Schedule has been executed.
pub record State : Type 0 where
  pub regs : Regs
  pub stack : List Word
  pub heap : List Word
  pub wires : List ℕ
  pub order : List ℕ
  pub done : Bool

abbrev pub sp : State → ℕ
sp s = length s.stack

abbrev pub hp : State → ℕ
hp s = length s.heap

-- ---- what is read of it

-- "n in the word at fp-1, or 0 if fp is 0"
unfoldable pub locals : ℕ → List Word → ℕ
locals fp ws = pick (eqb fp 0) 0 ((get_or ws (fp - 1) null).payload % 256)

-- "lp is fp + n"
unfoldable pub lp : State → ℕ
lp s = s.regs.fp + locals s.regs.fp s.stack

-- "Values are the words from lp to sp."
unfoldable pub values : State → ℕ
values s = sp s - lp s

-- the word a below the top
unfoldable pub below : List Word → ℕ → Word
below ws a = get_or ws (length ws - (a + 1)) null

-- the n words from the one i below the top on down
unfoldable pub downward : List Word → ℕ → ℕ → List Word
downward ws i zero = []
downward ws i (suc n) = below ws i ∷ downward ws (i + 1) n

-- the stack without its n upper words
unfoldable pub without : ℕ → List Word → List Word
without n ws = take (length ws - n) ws

-- the number k places into the object at the heap place p
unfoldable pub number_at : List Word → ℕ → ℕ → ℕ
number_at hs p k = bits (get_or hs (p + k) null)

-- the word refers to a cell with the header h
unfoldable pub is_cell : List Word → Word → ℕ → Bool
is_cell hs w h = is_ref w && eqb (number_at hs w.payload 0) h

-- the payload, or the size, of the cell that the word refers to
unfoldable pub second : List Word → Word → ℕ
second hs w = number_at hs w.payload 1

-- "the rule at order position" k: the address of that rule of the current ruleset
unfoldable pub rule_at : Program → State → ℕ → ℕ
rule_at P s k = P.rule s.regs.rs (get_or s.order (order_at P s.regs.rs + k) 0)

unfoldable pub rule_count : Program → State → ℕ
rule_count P s = P.count s.regs.rs

-- ---- the machine's own endings

-- "0 finished, 1 blocked (output), 2 fault (number), 3 no rule left after a failed match, 4 exception (number) with no handler"
pub data End : Type 0 where
  finished : End
  blocked : ℕ → End
  fault : ℕ → End
  no_rule : End
  unhandled : ℕ → End

-- ---- what an instruction does: an ending, which changes nothing; or cycles besides the card's, and an effect

-- the registers, the whole stack, the words added to the heap, the wires and the order after it
pub record Effect : Type 0 where
  pub regs : Regs
  pub stack : List Word
  pub grown : List Word
  pub wires : List ℕ
  pub order : List ℕ
  pub done : Bool

abbrev pub Deed : Type 0
Deed = Act Effect End

-- the fault n unless the test passes
unfoldable pub need : Bool → ℕ → Deed → Deed
need true n d = d
need false n d = ends (fault n)

-- "control goes to the next instruction and registers stay, unless said"
abbrev pub at : ℕ → Regs → Regs
at pc r = record { pc = pc; fp = r.fp; slp = r.slp; rp = r.rp; mp = r.mp; inp = r.inp; rs = r.rs }

abbrev pub next : Regs → Regs
next r = at (r.pc + 1) r

abbrev pub leaving : State → Regs → List Word → List Word → Effect
leaving s r ws hs = record { regs = r; stack = ws; grown = hs; wires = s.wires; order = s.order; done = false }

-- new registers alone
abbrev pub turns : State → Regs → Deed
turns s r = goes 0 (leaving s r s.stack [])

-- a new stack
abbrev pub stacks : State → List Word → Deed
stacks s ws = goes 0 (leaving s (next s.regs) ws [])

-- an object of these words, and the reference to it on top of ws
abbrev pub builds : State → ℕ → List Word → List Word → Deed
builds s cycles ws hs = goes cycles (leaving s (next s.regs) (ws ++ ref (hp s) ∷ []) hs)

-- the wires alone
abbrev pub rewires : State → List Word → List ℕ → Deed
rewires s ws w =
    goes 0 (record { regs = next s.regs; stack = ws; grown = []; wires = w; order = s.order; done = false })

-- "A failure goes to the rule at order rp"; "3 no rule left after a failed match". The registers r are those that a match
-- leaves whether or not it fails.
unfoldable pub fails : Program → State → Regs → Deed
fails P s r = pick (ltb s.regs.rp (rule_count P s)) (turns s (at (rule_at P s s.regs.rp) r)) (ends no_rule)

-- "makes Exn b of the top value ..; the stack becomes the exception, three nulls and a frame link with fp 0 and n 0; fp = 5, slp
-- 0; the handler is entered with rp 0"; "4 exception (number) with no handler"
unfoldable pub raise : Program → State → ℕ → ℕ → Word → Deed
raise P s cycles b w =
    pick (eqb P.handler 255) (ends (unhandled b))
    (goes cycles
    (leaving s
    (record {
      pc = P.entry P.handler;
      fp = 5;
      slp = 0;
      rp = 0;
      mp = s.regs.mp;
      inp = s.regs.inp;
      rs = P.handler;
    })
    (ref (hp s) ∷ null ∷ null ∷ null ∷ link 0 0 ∷ [])
    (raw (exn_header b) ∷ raw 1 ∷ w ∷ [])))
