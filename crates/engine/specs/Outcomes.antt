-- What a primitive gives and what an application comes to, said of the machine.
use Rattle.std.proofs.Props.{props}
use Rattle.std.specs.Prelude.{◌≡◌, Bool, false, Option, Some, None, Result, Ok, Err, List, [], ◌∷◌, ℕ, ◌+◌, ◌-◌, ◌≤◌, ◌<◌, eqb, take, ⊤, ◌==◌, if◌then◌else◌}
use Rattle.std.proofs.Math.Option.{Option as Partial, none, some}
use Rattle.limits.specs.Machine.{ends}
use Rattle.hume.specs.Tests.{pick}
use Rattle.hume.specs.Words.{Word, raw, int_header, float_header}
use Rattle.hume.specs.Primitives.{Yield, value, raises, Primitive, prim1, prim2}
use Rattle.hume.specs.Image.{Program}
use Rattle.hume.specs.State.{State, Deed, fault, builds, raise}
use Rattle.hume.specs.Instructions.{CallPrim1, CallPrim2, Raise}
use Rattle.engine.specs.Turns.{Holds, Smalls, core}
use Rattle.engine.specs.declared.prims.Cell.{Cell}
use Rattle.engine.specs.declared.prims.Trouble.{Trouble}
use Rattle.engine.specs.declared.prims.Trouble.TheVariants.{Fault, Raises}
use Rattle.engine.specs.declared.regs.Regs.{Regs}
use Rattle.engine.specs.declared.image.Handler.{Handler}

-- ---- what a primitive gives

-- a result's cell, or what comes in its place
abbrev pub Outcome : Type 0
Outcome = Result Cell Trouble

-- a result's header and payload
abbrev pub valued : ℕ → ℕ → Outcome
valued h x = Ok (record { header = h; payload = x })

-- "2 wrong kind of word or cell"
abbrev pub wrongly : Outcome
wrongly = Err (Fault 2)

-- an exception's number; the field of a primitive's exceptions is None
abbrev pub raised : ℕ → Outcome
raised e = Err (Raises e 536870912)

abbrev pub given : Primitive → Yield → Outcome
given p (value x) = valued p.gives x
given p (raises e) = raised e

-- what the primitive yields, where its operands are of the kind that it takes
unfoldable pub tried : Primitive → Bool → ℕ → ℕ → Outcome
tried p ok x y = pick ok (given p (p.yields x y)) wrongly

-- a value of the header g, where the operands' header h is k
unfoldable pub kept : ℕ → ℕ → ℕ → ℕ → Outcome
kept h k g v = pick (eqb h k) (valued g v) wrongly

-- an Int, unless the divisor is 0
unfoldable pub quotient : ℕ → ℕ → ℕ → Outcome
quotient h y v = pick (eqb h int_header) (pick (eqb y 0) (raised 1) (valued int_header v)) wrongly

-- an Int, if the Float has one
abbrev pub whole : Partial ℕ → Outcome
whole none = raised 2
whole (some n) = valued int_header n

unfoldable pub cutting : ℕ → Partial ℕ → Outcome
cutting h o = pick (eqb h float_header) (whole o) wrongly

-- ---- what an application comes to

-- how many values an application takes from the top
abbrev pub operands : ℕ → ℕ
operands op = if op == 20 then 2 else 1

-- the cell of a result above the lower words, in k cycles besides the card's
abbrev pub results : ℕ → ℕ → ℕ → ℕ → State → Deed
results k low h x s = builds s k (take low s.stack) (raw h ∷ raw x ∷ [])

-- the exception e with the field w
abbrev pub throws : Program → ℕ → ℕ → ℕ → State → Deed
throws P k e w s = raise P s k e (raw w)

-- the deed that trouble is
abbrev pub troubled : Program → ℕ → Trouble → State → Deed
troubled P k (Raises e w) = throws P k e w
troubled P k (Fault n) = λ s. ends (fault n)

-- the deed that an outcome is, a result above the lower words
abbrev pub dealt : Program → ℕ → ℕ → Outcome → State → Deed
dealt P k low (Ok c) = results k low c.header c.payload
dealt P k low (Err t) = troubled P k t

-- whatever state the registers and slices bear, it is the deed of the instruction, which takes n values
pub record Deals (r : Regs) (st he : List ℕ) (n k : ℕ) (deed : Program → State → Deed) (o : Outcome) : Type 0 where
  pub each : (P : Program) (ws hs : List Word) (wi or : List ℕ) → Holds r st he ws hs → Smalls ws → Smalls hs
      → deed P (core r ws hs wi or false) ≡ dealt P k (r.sp - n) o (core r ws hs wi or false)

-- an exception's number is in range
abbrev pub Tolerable : Trouble → Type 0
Tolerable (Raises e w) = e < 65536
Tolerable (Fault n) = ⊤

-- its numbers are in range: where there is a result, there are the n values that it takes
abbrev pub Fair : Regs → ℕ → Outcome → Type 0
Fair r n (Ok c) = r.lp + n ≤ r.sp
Fair r n (Err t) = Tolerable t

-- 19 CallPrim1 a, 20 CallPrim2 a, 21 Raise: "a of .. the primitives is checked in the image (it must exist)"
pub record Applies (op a : ℕ) : Type 0 where
  pub least : 19 ≤ op
  pub most : op ≤ 21
  pub one : op ≡ 19 → (1 ≤ a) × (a ≤ 3)
  pub two : op ≡ 20 → (1 ≤ a) × (a ≤ 22)

pub record Tries (r : Regs) (st he : List ℕ) (op a b : ℕ) (o : Outcome) : Type 0 where
  pub one : op ≡ 19 → Deals r st he 1 (prim1 a).cycles (λ P. CallPrim1 P a) o
  pub two : op ≡ 20 → Deals r st he 2 (prim2 a).cycles (λ P. CallPrim2 P a) o
  pub three : op ≡ 21 → Deals r st he 1 0 (λ P. Raise P b) o
  pub fair : Fair r (operands op) o

-- "cycles from Table 5 .. kept as one table of costs by primitive number": those of one operand, then those of two
unfoldable pub cycle_table : List ℕ
cycle_table =
    118
    ∷ 699
    ∷ 2973
    ∷ 125
    ∷ 243
    ∷ 122
    ∷ 124
    ∷ 122
    ∷ 124
    ∷ 116
    ∷ 116
    ∷ 124
    ∷ 206
    ∷ 1294
    ∷ 153
    ∷ 156
    ∷ 125
    ∷ 211
    ∷ 209
    ∷ 211
    ∷ 209
    ∷ 1106
    ∷ 1112
    ∷ 356
    ∷ 959
    ∷ []

-- the cycles of the primitive, and none for Raise
pub record Cycles (op a k : ℕ) : Type 0 where
  pub one : op ≡ 19 → k ≡ (prim1 a).cycles
  pub two : op ≡ 20 → k ≡ (prim2 a).cycles
  pub three : op ≡ 21 → k ≡ 0

-- the program's handler, and where it is entered; 255 is none
abbrev pub Handled : Program → Option Handler → Type 0
Handled P None = P.handler ≡ 255
Handled P (Some h) = (P.handler ≡ h.ruleset) × (h.ruleset ≡ 255 → ⊥) × (P.entry h.ruleset ≡ h.entry)

pub Handled-prop : (P : Program) (o : Option Handler) → IsProp (Handled P o)
Handled-prop P None = Prim.hlevel props
Handled-prop P (Some h) = Prim.hlevel props
