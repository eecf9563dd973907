-- A machine with no limits, what it executes, and the run of it under limits on time, stack and heap.
-- What the machine is made of and what its instructions do is a parameter.
use Rattle.std.specs.Prelude.{◌≡◌, Bool, true, false, ℕ, zero, suc, ◌+◌, ◌-◌, ◌≤◌, ◌<◌, max, ltb}
use Rattle.std.proofs.Math.Option.{Option, none, some}

-- ---- the machine

-- What a machine does in a state: it comes to an ending of its own, or it executes an instruction, which takes a time
-- and leads to a state.
pub data Act (S E : Type 0) : Type 0 where
  ends : E → Act S E
  goes : ℕ → S → Act S E

-- What it does, and how deep its stack and how full its heap are. It knows of no limit.
pub record Machine (S E : Type 0) : Type 0 where
  pub act : S → Act S E
  pub depth : S → ℕ
  pub heap : S → ℕ

-- A state, and the figures of what led to it: instructions executed, their time, the greatest depth after one of them.
pub record Run (S : Type 0) : Type 0 where
  pub state : S
  pub steps : ℕ
  pub time : ℕ
  pub peak : ℕ

-- Nothing is executed yet.
abbrev pub fresh : {S : Type 0} → S → Run S
fresh s = record { state = s; steps = 0; time = 0; peak = 0 }

-- ---- the limits, and how a run under them ends

-- The greatest time, depth and heap that an instruction may lead to.
pub record Limits : Type 0 where
  pub time : ℕ
  pub stack : ℕ
  pub heap : ℕ

-- The name of one of them.
pub data Limit : Type 0 where
  Time Stack Heap : Limit

-- By the machine's own ending, or at a limit.
pub data Ending (E : Type 0) : Type 0 where
  own : E → Ending E
  limit : Limit → Ending E

-- The ending, and the run that stands there: its state is left as it is.
pub record Outcome (S E : Type 0) : Type 0 where
  pub ending : Ending E
  pub run : Run S

-- It ended by itself at x.
abbrev pub ended : {S E : Type 0} → E → Run S → Outcome S E
ended e x = record { ending = own e; run = x }

-- It was stopped by the limit b at x.
abbrev pub stopped : {S E : Type 0} → Limit → Run S → Outcome S E
stopped b x = record { ending = limit b; run = x }

-- Each limit of L is at most that of K.
pub record Larger (L K : Limits) : Type 0 where
  pub time : L.time ≤ K.time
  pub stack : L.stack ≤ K.stack
  pub heap : L.heap ≤ K.heap

-- n is above the limit l. A limit that is exactly met is not broken.
abbrev pub above : ℕ → ℕ → Bool
above l n = ltb l n

-- The limit b if a test says so, before any that comes later.
abbrev pub or_later : Bool → Limit → Option Limit → Option Limit
or_later true b later = some b
or_later false b later = later

module _ {S E : Type 0} (M : Machine S E) where
  -- ---- the machine with no limits

  -- An instruction of the time t that leads to s: it is counted, its time is added, the depth after it is looked at.
  abbrev pub charge : Run S → ℕ → S → Run S
  charge r t s = record { state = s; steps = suc r.steps; time = r.time + t; peak = max r.peak (M.depth s) }

  -- What an act makes of a run: none if it is an ending.
  abbrev pub taken : Run S → Act S E → Option (Run S)
  taken r (ends e) = none
  taken r (goes t s) = some (charge r t s)

  -- One instruction; none where the machine ends.
  abbrev pub next : Run S → Option (Run S)
  next r = taken r (M.act r.state)

  -- n instructions; none if the machine ends before.
  unfoldable pub after : ℕ → Run S → Option (Run S)
  after zero r = some r
  after (suc n) r = elim (next r) [ none ↦ none | some x ↦ after n x ]

  -- The greatest depth after one of the first n instructions from the state s, or d.
  unfoldable pub deeper : ℕ → ℕ → S → ℕ
  deeper zero d s = d
  deeper (suc n) d s = elim (M.act s) [ ends e ↦ d | goes t u ↦ deeper n (max d (M.depth u)) u ]

  -- The same from a run: its figures are not looked at.
  abbrev pub deepest : ℕ → ℕ → Run S → ℕ
  deepest n d r = deeper n d r.state

  -- ---- against limits

  -- The run x, to which an instruction led, is inside all three limits.
  pub record Inside (L : Limits) (x : Run S) : Type 0 where
    pub time : x.time ≤ L.time
    pub stack : M.depth x.state ≤ L.stack
    pub heap : M.heap x.state ≤ L.heap

  -- "every instruction inside all three limits": each of the first n leads to a run that is inside.
  abbrev pub AllInside : Limits → ℕ → Run S → Type 0
  AllInside L n r = (k : ℕ) (x : Run S) → k < n → after (suc k) r ≡ some x → Inside L x

  -- "the limit that the first offending instruction breaks (time, stack, heap)": the first, so ordered, that x exceeds.
  abbrev pub Breaks : Limits → Limit → Run S → Type 0
  Breaks L Time x = L.time < x.time
  Breaks L Stack x = (x.time ≤ L.time) × (L.stack < M.depth x.state)
  Breaks L Heap x = (x.time ≤ L.time) × (M.depth x.state ≤ L.stack) × (L.heap < M.heap x.state)

  -- ---- the run under limits, as a function

  -- The first limit that x is above, if any.
  abbrev pub broken : Limits → Run S → Option Limit
  broken L x =
      let d = M.depth x.state in
      let h = M.heap x.state in
      or_later (above L.time x.time) Time
      (or_later (above L.stack d) Stack (or_later (above L.heap h) Heap none))

  -- At most n turns: each ends, or stops before an instruction that breaks a limit, or executes one.
  unfoldable pub turns : ℕ → Limits → Run S → Outcome S E
  turns zero L r = stopped Time r
  turns (suc n) L r =
      elim (M.act r.state) [
        | ends e ↦ ended e r
        | goes t s ↦ elim (broken L (charge r t s)) [ none ↦ turns n L (charge r t s) | some b ↦ stopped b r ]
      ]

  -- Where each instruction takes time, one turn more than the time left is enough.
  unfoldable pub limited : Limits → Run S → Outcome S E
  unfolding turns
  limited L r = turns (suc (L.time - r.time)) L r
