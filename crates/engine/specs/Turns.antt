-- What the registers and the lent slices bear, and what a turn of the code makes of it, said of the machine.
use Rattle.std.specs.Prelude.{◌≡◌, Bool, Some, None, is_none, true, false, List, [], ◌∷◌, ◌++◌, ℕ, ◌+◌, ◌-◌, ◌≤◌, ◌<◌, max, length, get_or}
use Rattle.limits.specs.Machine.{Act, ends, goes}
use Rattle.hume.specs.Words.{Word, null, bits}
use Rattle.hume.specs.State.{State, End, finished, blocked, fault, no_rule, unhandled, Deed, sp, hp, locals, stacks}
use Rattle.hume.specs.State as state
use Rattle.hume.specs.Machine.{charged}
use Rattle.laws.specs.Sizes.{Small}
use Rattle.engine.specs.declared.Ending.{Ending}
use Rattle.engine.specs.declared.Ending.TheVariants as ending
use Rattle.engine.specs.Limits.{Limits}
use Rattle.engine.specs.declared.regs.Regs.{Regs}
use Rattle.engine.specs.declared.regs.Turn.{Turn}

-- ---- what is borne

-- the first words of the area are the words
pub record Bears (l : List ℕ) (ws : List Word) : Type 0 where
  pub room : length ws ≤ length l
  pub get : (i : ℕ) → i < length ws → get_or l i 0 ≡ bits (get_or ws i null)

-- each word is read back from its 32 bits
pub record Smalls (ws : List Word) : Type 0 where
  pub each : (i : ℕ) → Small (get_or ws i null)

-- the machine's own registers
abbrev pub plain : Regs → state.Regs
plain r = record { pc = r.pc; fp = r.fp; slp = r.slp; rp = r.rp; mp = r.mp; inp = r.inp; rs = r.rs }

-- the machine's state that the registers, two lists of words, the wires and the order are
abbrev pub core : Regs → List Word → List Word → List ℕ → List ℕ → Bool → State
core r ws hs wi or d = record { regs = plain r; stack = ws; heap = hs; wires = wi; order = or; done = d }

-- the slices bear the words, and the registers their lengths and lp
pub record Holds (r : Regs) (st he : List ℕ) (ws hs : List Word) : Type 0 where
  pub stack : Bears st ws
  pub heap : Bears he hs
  pub sp : r.sp ≡ length ws
  pub hp : r.hp ≡ length hs
  pub lp : r.lp ≡ r.fp + locals r.fp ws

-- ---- a turn

abbrev pub end_of : End → Ending
end_of finished = ending.Finished
end_of (blocked i) = ending.Blocked i
end_of (fault n) = ending.Fault n
end_of no_rule = ending.NoRule
end_of (unhandled n) = ending.Unhandled n

-- "An instruction that gives any ending but 0 changes nothing"
abbrev pub halt : Regs → Ending → Turn
halt r e = record { regs = r; ending = Some e }

-- it goes on, or has finished
abbrev pub onward : Bool → Regs → Turn
onward true r = record { regs = r; ending = Some ending.Finished }
onward false r = record { regs = r; ending = None }

-- whether it goes on
abbrev pub goes_on : Turn → Bool
goes_on q = is_none q.ending

-- the next registers, charged
abbrev pub paid : Regs → ℕ → Regs → Regs
paid r cost n =
    record {
      pc = n.pc;
      sp = n.sp;
      hp = n.hp;
      fp = n.fp;
      lp = n.lp;
      slp = n.slp;
      rp = n.rp;
      mp = n.mp;
      inp = n.inp;
      rs = n.rs;
      steps = r.steps + 1;
      left = r.left - cost;
      peak = max r.peak n.sp;
    }

-- time, then depth, then heap, else charged
pub data Charging (lim : Limits) (r : Regs) (cost : ℕ) (n : Regs) (q : Turn) : Type 0 where
  late : r.left < cost → q ≡ halt r ending.Time → Charging lim r cost n q
  deep : cost ≤ r.left → lim.stack < n.sp → q ≡ halt r ending.Stack → Charging lim r cost n q
  full : cost ≤ r.left → n.sp ≤ lim.stack → lim.heap < n.hp → q ≡ halt r ending.Heap → Charging lim r cost n q
  pays : cost ≤ r.left → n.sp ≤ lim.stack → n.hp ≤ lim.heap → q ≡ onward false (paid r cost n)
      → Charging lim r cost n q

-- the four buffers
pub record Buffers : Type 0 where
  pub stack : List ℕ
  pub heap : List ℕ
  pub wires : List ℕ
  pub order : List ℕ

abbrev pub buffers : List ℕ → List ℕ → List ℕ → List ℕ → Buffers
buffers st he wi or = record { stack = st; heap = he; wires = wi; order = or }

-- the registers and buffers bear the state u after t more time
pub record Goes (lim : Limits) (r : Regs) (t : ℕ) (u : State) (q : Turn) (b' : Buffers) : Type 0 where
  pub next : Regs
  pub turn : q ≡ onward u.done (paid r t next)
  pub is : u ≡ core next u.stack u.heap b'.wires b'.order u.done
  pub holds : Holds next b'.stack b'.heap u.stack u.heap
  pub time : t ≤ r.left
  pub depth : sp u ≤ lim.stack
  pub heap : hp u ≤ lim.heap

-- one turn under the limits, where the machine does o
pub data Turned (lim : Limits) (r : Regs) (b : Buffers) (o : Act State End) (q : Turn) (b' : Buffers) : Type 0 where
  ended : (e : End) → o ≡ ends e → q ≡ halt r (end_of e) → b' ≡ b → Turned lim r b o q b'
  late : (t : ℕ) (u : State) → o ≡ goes t u → r.left < t → q ≡ halt r ending.Time → b' ≡ b → Turned lim r b o q b'
  deep : (t : ℕ) (u : State) → o ≡ goes t u → t ≤ r.left → lim.stack < sp u → q ≡ halt r ending.Stack → b' ≡ b
      → Turned lim r b o q b'
  full : (t : ℕ) (u : State) → o ≡ goes t u → t ≤ r.left → sp u ≤ lim.stack → lim.heap < hp u
      → q ≡ halt r ending.Heap → b' ≡ b → Turned lim r b o q b'
  went : (t : ℕ) (u : State) → o ≡ goes t u → Goes lim r t u q b' → Turned lim r b o q b'

-- THE FORM OF EVERY INSTRUCTION'S CONTRACT: whatever state of the machine the registers and buffers bear, the turn is the machine's.
pub record Meets (lim : Limits) (r : Regs) (b : Buffers) (act : State → Act State End) (q : Turn) (b' : Buffers) : Type 0 where
  pub each : (ws hs : List Word) → Holds r b.stack b.heap ws hs → Smalls ws → Smalls hs
      → Turned lim r b (act (core r ws hs b.wires b.order false)) q b'

-- an instruction at its price
abbrev pub priced : ℕ → (State → Deed) → State → Act State End
priced cost deed s = charged cost s (deed s)

-- one word more
abbrev pub pushing : Word → State → Deed
pushing w s = stacks s (s.stack ++ w ∷ [])
