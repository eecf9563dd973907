-- DEMAND 3, over any machine.
-- "Against that machine with no limits: we give its own ending exactly when it reaches it with every instruction inside
-- all three limits. Otherwise we name the limit that the first offending instruction breaks (time, stack, heap) and
-- stand before it. So larger limits never change an own ending or its figures; limits equal to time, peak and heap
-- suffice, one less of any above zero is too few."
use Rattle.std.specs.Prelude.{◌≡◌, ◌↔◌, ℕ, pred, ◌≤◌, ◌<◌}
use Rattle.std.proofs.Math.Option.{some}
use Rattle.limits.specs.Machine.{ends, goes, Machine, Run, fresh, Limits, Limit, Time, Stack, Heap}
use Rattle.limits.specs.Machine.{Ending, own, limit, Outcome, ended, stopped, Larger, next, after}
use Rattle.limits.specs.Machine.{AllInside, Breaks, deepest, limited}

-- One of the three limits.
abbrev pub one_of : Limits → Limit → ℕ
one_of L Time = L.time
one_of L Stack = L.stack
one_of L Heap = L.heap

-- One less of that limit, the other two kept.
abbrev pub less : Limits → Limit → Limits
less L Time = record { time = pred L.time; stack = L.stack; heap = L.heap }
less L Stack = record { time = L.time; stack = pred L.stack; heap = L.heap }
less L Heap = record { time = L.time; stack = L.stack; heap = pred L.heap }

module _ {S E : Type 0} (M : Machine S E) where
  -- ---- what is asked of the machine

  -- Every instruction takes time.
  abbrev pub Costly : Type 0
  Costly = (s : S) (t : ℕ) (u : S) → M.act s ≡ goes t u → 0 < t

  -- No instruction gives heap back.
  abbrev pub Growing : Type 0
  Growing = (s : S) (t : ℕ) (u : S) → M.act s ≡ goes t u → M.heap s ≤ M.heap u

  -- ---- what the machine with no limits does

  -- It comes to its own ending e, and stands at x then.
  pub record Reaches (r : Run S) (e : E) (x : Run S) : Type 0 where
    pub count : ℕ
    pub reached : after M count r ≡ some x
    pub ending : M.act x.state ≡ ends e

  -- It comes to x with every instruction inside the limits, and the next one, which leads to `to`, breaks b.
  pub record Offends (L : Limits) (r : Run S) (b : Limit) (x : Run S) : Type 0 where
    pub count : ℕ
    pub reached : after M count r ≡ some x
    pub inside : AllInside M L count r
    pub to : Run S
    pub offending : next M x ≡ some to
    pub breaks : Breaks M L b to

  -- Why a run may stop at x with this ending: it is the machine's own there; or the next instruction breaks that limit.
  abbrev pub Stops : Limits → Run S → Ending E → Type 0
  Stops L x (own e) = M.act x.state ≡ ends e
  Stops L x (limit b) = (y : Run S) × (next M x ≡ some y) × Breaks M L b y

  -- An outcome as demanded: it stands where some number of instructions lead, all inside the limits, and may stop.
  pub record Promise (L : Limits) (r : Run S) (q : Outcome S E) : Type 0 where
    pub count : ℕ
    pub reached : after M count r ≡ some q.run
    pub inside : AllInside M L count r
    pub stops : Stops L q.run q.ending

  -- ---- the demand, clause by clause, from any run r

  -- A run under limits ends, as demanded,
  abbrev pub Ends : Type 0
  Ends = Costly → (L : Limits) (r : Run S) → Promise L r (limited M L r)

  -- and in one way only.
  abbrev pub Unique : Type 0
  Unique = (L : Limits) (r : Run S) (p q : Outcome S E) → Promise L r p → Promise L r q → p ≡ q

  -- "we give its own ending exactly when it reaches it with every instruction inside all three limits."
  abbrev pub OwnExactly : Type 0
  OwnExactly =
      Costly → (L : Limits) (r : Run S) (e : E) (x : Run S)
      → (limited M L r ≡ ended e x) ↔ ((c : Reaches r e x) × AllInside M L c.count r)

  -- "Otherwise we name the limit that the first offending instruction breaks (time, stack, heap) and stand before it."
  abbrev pub LimitExactly : Type 0
  LimitExactly =
      Costly → (L : Limits) (r : Run S) (b : Limit) (x : Run S)
      → (limited M L r ≡ stopped b x) ↔ Offends L r b x

  -- "So larger limits never change an own ending or its figures"
  abbrev pub LargerKeeps : Type 0
  LargerKeeps =
      Costly → (L K : Limits) → Larger L K → (r : Run S) (e : E) (x : Run S) → limited M L r ≡ ended e x
      → limited M K r ≡ ended e x

  -- Going on where a run stopped, under limits no smaller, is one run under them; any number of stops changes nothing.
  abbrev pub GoesOn : Type 0
  GoesOn = Costly → (L K : Limits) → Larger L K → (r : Run S) → limited M K (limited M L r).run ≡ limited M K r

  -- What n instructions from r to x need: the time figure and the heap at the end, the greatest depth after one.
  abbrev pub needs : ℕ → Run S → Run S → Limits
  needs n r x = record { time = x.time; stack = deepest M n 0 r; heap = M.heap x.state }

  -- They used some of it: more than was there at their start.
  abbrev pub Used : ℕ → Run S → Run S → Limit → Type 0
  Used n r x Time = r.time < x.time
  Used n r x Stack = 0 < deepest M n 0 r
  Used n r x Heap = M.heap r.state < M.heap x.state

  -- "limits equal to time, peak and heap suffice"
  abbrev pub Enough : Type 0
  Enough =
      Costly → Growing → (r : Run S) (e : E) (x : Run S) (c : Reaches r e x)
      → limited M (needs c.count r x) r ≡ ended e x

  -- One less of any that was used is too few: the run names that very limit.
  abbrev pub TooFew : Type 0
  TooFew =
      Costly → Growing → (r : Run S) (e : E) (x : Run S) (c : Reaches r e x) (b : Limit) → Used c.count r x b
      → (limited M (less (needs c.count r x) b) r).ending ≡ limit b

  -- Both at once: where an instruction is executed, the limits that give the own ending are those that are as large.
  abbrev pub Least : Type 0
  Least =
      Costly → Growing → (K : Limits) (r : Run S) (e : E) (x : Run S) (c : Reaches r e x) → 0 < c.count
      → (limited M K r ≡ ended e x) ↔ Larger (needs c.count r x) K

  -- ---- the same in the figures themselves, from a fresh start with an empty heap

  -- Time, peak and heap, as limits.
  abbrev pub figures : Run S → Limits
  figures x = record { time = x.time; stack = x.peak; heap = M.heap x.state }

  -- "limits equal to time, peak and heap suffice,"
  abbrev pub FiguresEnough : Type 0
  FiguresEnough =
      Costly → Growing → (s : S) (e : E) (x : Run S) → Reaches (fresh s) e x
      → limited M (figures x) (fresh s) ≡ ended e x

  -- "one less of any above zero is too few."
  abbrev pub FiguresTooFew : Type 0
  FiguresTooFew =
      Costly → Growing → (s : S) → M.heap s ≡ 0 → (e : E) (x : Run S) → Reaches (fresh s) e x → (b : Limit)
      → 0 < one_of (figures x) b → (limited M (less (figures x) b) (fresh s)).ending ≡ limit b

  -- Both at once: the limits that give the own ending are those that are as large as the figures.
  abbrev pub FiguresLeast : Type 0
  FiguresLeast =
      Costly → Growing → (s : S) → M.heap s ≡ 0 → (K : Limits) (e : E) (x : Run S) → Reaches (fresh s) e x
      → (limited M K (fresh s) ≡ ended e x) ↔ Larger (figures x) K

  -- ---- all of it

  -- Demand 3 of the machine M.
  pub record Demand3 : Type 0 where
    pub is_met : Ends
    pub unique : Unique
    pub own_exactly : OwnExactly
    pub limit_exactly : LimitExactly
    pub larger_keeps : LargerKeeps
    pub goes_on : GoesOn
    pub enough : Enough
    pub too_few : TooFew
    pub least : Least
    pub figures_enough : FiguresEnough
    pub figures_too_few : FiguresTooFew
    pub figures_least : FiguresLeast
