-- For a loop that executes an instruction a turn: what a turn returns, and what it leaves as it was.
-- The loop's invariant is `limited M L start ≡ limited M L now`.
use mathlib.Core.Path.{◌≡◌}
use Prim.Native.Nat.{ℕ, suc, ◌-◌}
use Rattle.limits.specs.Machine.{ends, goes, Machine, Run, Limits, Limit, ended, stopped, charge, Inside, Breaks}
use Rattle.limits.specs.Machine.{turns, limited}
use Rattle.limits.specs.Demand3.{Costly}
use Rattle.limits.proofs.Steps.{next_goes}
use Rattle.limits.proofs.Promise.{Judged, fine, over, judge, not_both, breaks_one, turns_ends, turns_stops}
use Rattle.limits.proofs.Promise.{promise_cons, promise_exactly, limited_meets}

module _ {S E : Type 0} (M : Machine S E) where
  -- at an own ending
  pub limited_ends : (L : Limits) (r : Run S) (e : E) → M.act r.state ≡ ends e → limited M L r ≡ ended e r
  unfolding limited
  limited_ends L r e p = turns_ends M (L.time - r.time) L r e p

  -- before an instruction that breaks a limit
  pub limited_stops : (L : Limits) (r : Run S) (t : ℕ) (u : S) (b : Limit) → M.act r.state ≡ goes t u
      → Breaks M L b (charge M r t u) → limited M L r ≡ stopped b r
  unfolding limited
  limited_stops L r t u b p h = by (judge M L (charge M r t u))
    where
      by : Judged M L (charge M r t u) → turns M (suc (L.time - r.time)) L r ≡ stopped b r
      by (fine q f) = absurd (not_both M L b (charge M r t u) f h)
      by (over c q g) =
          rw (breaks_one M L b c (charge M r t u) h g) (turns_stops M (L.time - r.time) L r t u c p q)

  -- an instruction that stays inside
  pub limited_goes : Costly M → (L : Limits) (r : Run S) (t : ℕ) (u : S) → M.act r.state ≡ goes t u
      → Inside M L (charge M r t u) → limited M L r ≡ limited M L (charge M r t u)
  limited_goes costly L r t u p f =
      (promise_exactly M costly L r (limited M L (charge M r t u))).1
      (promise_cons M L r (charge M r t u) (limited M L (charge M r t u)) (next_goes M r t u p) f
      (limited_meets M costly L (charge M r t u)))
