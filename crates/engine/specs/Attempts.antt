-- What a match comes to, and what follows from it.
use Rattle.std.specs.Prelude.{◌≡◌, Bool, false, List, ℕ, Option, Some, None, Result, Ok, Err}
use Rattle.limits.specs.Machine.{ends}
use Rattle.hume.specs.Tests.{pick}
use Rattle.hume.specs.Words.{Word}
use Rattle.hume.specs.Image.{Program}
use Rattle.hume.specs.State.{State, fault, Deed, next, turns, fails, is_cell}
use Rattle.hume.specs.State as state
use Rattle.hume.specs.Instructions.{cell_is}
use Rattle.engine.specs.Turns.{Holds, Smalls, Buffers, core}
use Rattle.engine.specs.declared.Ending.{Ending}
use Rattle.engine.specs.declared.Ending.TheVariants.{Fault}
use Rattle.engine.specs.declared.regs.Regs.{Regs}
use Rattle.engine.specs.declared.matching.Attempt.{Attempt}
use Rattle.engine.specs.declared.matching.Pattern.{Pattern}

-- the cell's header is h, and its second word the one that is asked for, if one is
abbrev pub seeks_cell : ℕ → Option ℕ → List Word → Word → Bool
seeks_cell h None hs w = is_cell hs w h
seeks_cell h (Some x) hs w = cell_is h x hs w

-- the test of a match
unfoldable pub seeks : Pattern → List Word → Word → Bool
seeks p hs w = seeks_cell p.header p.second hs w

-- the registers with this mp and inp
abbrev pub tallied : state.Regs → ℕ → ℕ → state.Regs
tallied r mp inp =
    record { pc = r.pc; fp = r.fp; slp = r.slp; rp = r.rp; mp = mp; inp = inp; rs = r.rs }

-- a match that succeeds, or doesn't, and leaves this mp and inp
unfoldable pub concludes : Program → Attempt → State → Deed
concludes P t s =
    pick t.hit (turns s (next (tallied s.regs t.mp t.inp))) (fails P s (tallied s.regs t.mp t.inp))

-- the attempt is what the machine's deed comes to
pub data Attempted (P : Program) (s : State) (d : Deed) (o : Result Attempt Ending) : Type 0 where
  faulty : (k : ℕ) → o ≡ Err (Fault k) → d ≡ ends (fault k) → Attempted P s d o
  tries : (t : Attempt) → o ≡ Ok t → d ≡ concludes P t s → Attempted P s d o

-- whatever state of the machine the registers and buffers bear
pub record Attempts (P : Program) (r : Regs) (b : Buffers) (act : State → Deed) (o : Result Attempt Ending) : Type 0 where
  pub each : (ws hs : List Word) → Holds r b.stack b.heap ws hs → Smalls ws → Smalls hs
      → Attempted P (core r ws hs b.wires b.order false) (act (core r ws hs b.wires b.order false)) o
