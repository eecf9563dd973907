-- The demands, of one call: what `answer` gives for every input there is, said of the unlimited machine's own steps.
use Rattle.std.specs.Prelude.{◌≡◌, ◌↔◌, ℕ, suc, ◌-◌, ◌≤◌, ◌<◌, length}
use Rattle.std.proofs.Math.Option.{some}
use Rattle.limits.specs.Machine.{Machine, Run, fresh, Limits, Limit, limit, Outcome, ended, stopped, Larger, after, AllInside, deepest, limited}
use Rattle.limits.specs.Demand3.{Reaches, Offends, Promise, one_of, less, figures}
use Rattle.limits.specs.Figures.{tally}
use Rattle.hume.specs.Image.{program, code_at}
use Rattle.hume.specs.State.{State, End}
use Rattle.hume.specs.Machine.{machine, start}
use Rattle.hume.specs.Call.{Given, refusal, refused, outcome, ran, answer}
use Rattle.laws.specs.Accepted.{Bytes, Words32, Accepted, CardFits, WiresFit, OrderFits}
use Rattle.reach.specs.Sound.{Sound, Ranged}

-- ---- demand 1

-- "Bad input is refused under the first number of document 01 that applies, figures zero, every lent buffer untouched. Input to
-- which no number applies is accepted."
pub record Demand1 (g : Given) : Type 0 where
  pub refuses : (n : ℕ) → refusal g ≡ suc n → answer g ≡ refused g (suc n)
  pub accepts : refusal g ≡ 0 → answer g ≡ ran g (outcome g)

-- what a call that is accepted gives to whoever runs it
pub record Allowed (g : Given) : Type 0 where
  pub image : Accepted (program g.image)
  pub long : code_at g.image (program g.image).size ≡ length g.image
  pub card : CardFits g.card
  pub stack_cap : g.limits.stack ≤ 4096
  pub heap_cap : g.limits.heap ≤ 16384
  pub stack_room : g.limits.stack ≤ length g.stack
  pub heap_room : g.limits.heap ≤ length g.heap
  pub wires : WiresFit (program g.image) g.wires
  pub order : OrderFits (program g.image) g.order

-- ---- demands 2 and 3, of an accepted call

abbrev pub unlimited : Given → Machine State End
unlimited g = machine (program g.image) g.card

abbrev pub begins : Given → Run State
begins g = fresh (start (program g.image) g.wires g.order)

pub record Demand3 (g : Given) : Type 0 where
  -- The outcome is as demanded, and no other is.
  pub is_met : Promise (unlimited g) g.limits (begins g) (outcome g)
  pub unique : (q : Outcome State End) → Promise (unlimited g) g.limits (begins g) q → q ≡ outcome g
  -- "we give its own ending exactly when it reaches it with every instruction inside all three limits."
  pub own_exactly : (e : End) (x : Run State)
      → (outcome g ≡ ended e x)
      ↔ ((c : Reaches (unlimited g) (begins g) e x) × AllInside (unlimited g) g.limits c.count (begins g))
  -- "Otherwise we name the limit that the first offending instruction breaks (time, stack, heap) and stand before it."
  pub limit_exactly : (b : Limit) (x : Run State) → (outcome g ≡ stopped b x) ↔ Offends (unlimited g) g.limits (begins g) b x
  -- "So larger limits never change an own ending or its figures"
  pub larger_keeps : (K : Limits) → Larger g.limits K → (e : End) (x : Run State) → outcome g ≡ ended e x
      → limited (unlimited g) K (begins g) ≡ ended e x
  -- "limits equal to time, peak and heap suffice,"
  pub figures_enough : (e : End) (x : Run State) → Reaches (unlimited g) (begins g) e x
      → limited (unlimited g) (figures (unlimited g) x) (begins g) ≡ ended e x
  -- "one less of any above zero is too few."
  pub figures_too_few : (e : End) (x : Run State) → Reaches (unlimited g) (begins g) e x → (b : Limit)
      → 0 < one_of (figures (unlimited g) x) b
      → (limited (unlimited g) (less (figures (unlimited g) x) b) (begins g)).ending ≡ limit b
  -- Both at once: which limits give an own ending.
  pub figures_least : (K : Limits) (e : End) (x : Run State) → Reaches (unlimited g) (begins g) e x
      → (limited (unlimited g) K (begins g) ≡ ended e x) ↔ Larger (figures (unlimited g) x) K

-- The figures are the executed instructions' own: their number, the sum of their times, the greatest depth after one, and what each
-- added to the heap.
pub record OwnFigures (g : Given) : Type 0 where
  pub count : ℕ
  pub reached : after (unlimited g) count (begins g) ≡ some (outcome g).run
  pub steps : (outcome g).run.steps ≡ count
  pub time : (outcome g).run.time ≡ tally (unlimited g) (λ s t u. t) count (begins g).state
  pub peak : (outcome g).run.peak ≡ deepest (unlimited g) count 0 (begins g)
  pub heap : (unlimited g).heap (outcome g).run.state
      ≡ tally (unlimited g) (λ s t u. (unlimited g).heap u - (unlimited g).heap s) count (begins g).state

-- What is lent are bytes and 32-bit words.
pub record Typed (g : Given) : Type 0 where
  pub image : Bytes g.image
  pub wires : Words32 g.wires

-- The state that an accepted call leaves is sound and in range.
pub record Left (g : Given) : Type 0 where
  pub sound : Sound (program g.image) (outcome g).run.state
  pub ranged : Ranged (outcome g).run
