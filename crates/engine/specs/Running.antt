-- Between two turns of a run, and at its end: what the registers and buffers bear, said of the outcome of the call.
use Rattle.std.specs.Prelude.{◌≡◌, Bool, false, List, ℕ, ◌-◌, ◌^◌, ◌≤◌, ◌<◌}
use Rattle.limits.specs.Machine.{Run, Ending as Halt, own, limit, limited}
use Rattle.limits.specs.Machine.{Time as Time', Stack as Stack', Heap as Heap'}
use Rattle.hume.specs.Words.{Word}
use Rattle.hume.specs.Image.{program}
use Rattle.hume.specs.State.{State, End}
use Rattle.hume.specs.Call.{Given, outcome}
use Rattle.reach.specs.Sound.{Sound, Ranged}
use Rattle.reach.specs.Demands.{unlimited}
use Rattle.engine.specs.Turns.{core, Holds, Buffers, end_of}
use Rattle.engine.specs.declared.Ending.{Ending}
use Rattle.engine.specs.declared.Ending.TheVariants as ending
use Rattle.engine.specs.Limits.{Limits}
use Rattle.engine.specs.declared.regs.Regs.{Regs}

-- the run of the machine that the registers stand for, of T time in all
abbrev pub run_of : ℕ → Regs → List Word → List Word → List ℕ → List ℕ → Bool → Run State
run_of T r ws hs wi or d =
    record { state = core r ws hs wi or d; steps = r.steps; time = T - r.left; peak = r.peak }

-- the limits that the code goes by are the call's
pub record Bounds (g : Given) (lim : Limits) : Type 0 where
  pub stack : lim.stack ≡ g.limits.stack
  pub heap : lim.heap ≡ g.limits.heap
  pub time : g.limits.time < 2 ^ 32

-- a run is under way: from here it comes to the call's outcome
pub record Going (g : Given) (r : Regs) (b : Buffers) : Type 0 where
  pub ws : List Word
  pub hs : List Word
  pub holds : Holds r b.stack b.heap ws hs
  pub left : r.left ≤ g.limits.time
  pub sp : r.sp ≤ g.limits.stack
  pub hp : r.hp ≤ g.limits.heap
  pub peak : r.sp ≤ r.peak
  pub sound : Sound (program g.image) (core r ws hs b.wires b.order false)
  pub ranged : Ranged (run_of g.limits.time r ws hs b.wires b.order false)
  pub same : outcome g
      ≡ limited (unlimited g) g.limits (run_of g.limits.time r ws hs b.wires b.order false)

-- the ending as the code's
abbrev pub halt_of : Halt End → Ending
halt_of (own e) = end_of e
halt_of (limit Time') = ending.Time
halt_of (limit Stack') = ending.Stack
halt_of (limit Heap') = ending.Heap

-- a run has ended: this is the call's outcome
pub record Over (g : Given) (r : Regs) (e : Ending) (b : Buffers) : Type 0 where
  pub ws : List Word
  pub hs : List Word
  pub holds : Holds r b.stack b.heap ws hs
  pub left : r.left ≤ g.limits.time
  pub ending : Halt End
  pub done : Bool
  pub is : e ≡ halt_of ending
  pub same : outcome g
      ≡ record { ending = ending; run = run_of g.limits.time r ws hs b.wires b.order done }
