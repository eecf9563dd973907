-- What the figures of a run are, said of the machine's own acts and states alone.
use Rattle.std.specs.Prelude.{◌≡◌, ℕ, zero, suc, ◌+◌, ◌-◌}
use Rattle.std.proofs.Math.Option.{some}
use Rattle.limits.specs.Machine.{ends, goes, Machine, Run, after, deepest}
use Rattle.limits.specs.Demand3.{Growing}

module _ {S E : Type 0} (M : Machine S E) where
  -- The sum, over the first n instructions from s, of a weight: of the state before, the time, and the state after.
  unfoldable pub tally : (S → ℕ → S → ℕ) → ℕ → S → ℕ
  tally w zero s = 0
  tally w (suc n) s = elim (M.act s) [ ends e ↦ 0 | goes t u ↦ w s t u + tally w n u ]

  -- The steps are the number of the instructions.
  abbrev pub StepsAreNumber : Type 0
  StepsAreNumber = (n : ℕ) (r x : Run S) → after M n r ≡ some x → x.steps ≡ r.steps + n

  -- The time is the sum of their times.
  abbrev pub TimeIsSum : Type 0
  TimeIsSum = (n : ℕ) (r x : Run S) → after M n r ≡ some x → x.time ≡ r.time + tally (λ s t u. t) n r.state

  -- The peak is the greatest depth after one of them, or what it was.
  abbrev pub PeakIsDeepest : Type 0
  PeakIsDeepest = (n : ℕ) (r x : Run S) → after M n r ≡ some x → x.peak ≡ deepest M n r.peak r

  -- The heap is what it was and what each of them added.
  abbrev pub HeapIsSum : Type 0
  HeapIsSum =
      Growing M → (n : ℕ) (r x : Run S) → after M n r ≡ some x
      → M.heap x.state ≡ M.heap r.state + tally (λ s t u. M.heap u - M.heap s) n r.state
