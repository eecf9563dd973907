-- What every instruction keeps holds wherever the machine comes.
use mathlib.Core.Path.{◌≡◌}
use mathlib.Core.Option.{some}
use Prim.Native.Nat.{ℕ, zero, suc, ◌-◌, ◌≤◌}
use native.Mathlib.Nat.{max-le}
use Rattle.limits.specs.Machine.{goes, Machine, Run, Limits, charge, after, Inside, AllInside, turns, limited}
use Rattle.limits.specs.Kept.{KeepsState, Keeps, KeepsInside}
use Rattle.limits.proofs.Steps.{Doing, stop, step, doing, next_goes, after_zero, unstep}
use Rattle.limits.proofs.Steps.{inside_head, inside_tail}
use Rattle.limits.proofs.Promise.{Judged, fine, over, judge, turns_ends, turns_stops, turns_goes}

module _ {S E : Type 0} (M : Machine S E) where
  pub kept : (P : Run S → Type 0) → Keeps M P → (n : ℕ) (r x : Run S) → after M n r ≡ some x → P r → P x
  kept P k zero r x a h = rw (← (after_zero M r x a)) h
  kept P k (suc n) r x a h =
      let y = unstep M n r x a in
      kept P k n (charge M r y.0 y.1) x y.3 (k r y.0 y.1 h y.2)

  -- of states
  pub kept_state : (P : S → Type 0) → KeepsState M P
      → (n : ℕ) (r x : Run S) → after M n r ≡ some x → P r.state → P x.state
  kept_state P k = kept (λ z. P z.state) (λ z t u. k z.state t u)

  pub kept_inside : (L : Limits) (P : Run S → Type 0) → KeepsInside M L P
      → (n : ℕ) (r x : Run S) → after M n r ≡ some x → AllInside M L n r → P r → P x
  kept_inside L P k zero r x a w h = rw (← (after_zero M r x a)) h
  kept_inside L P k (suc n) r x a w h =
      let y = unstep M n r x a in
      let z = charge M r y.0 y.1 in
      let p = next_goes M r y.0 y.1 y.2 in
      let g = k r y.0 y.1 h y.2 (inside_head M L n r z p w) in
      kept_inside L P k n z x y.3 (inside_tail M L n r z p w) g

  kept_turns : (L : Limits) (P : Run S → Type 0) → KeepsInside M L P → (n : ℕ) (r : Run S) → P r
      → P (turns M n L r).run
  unfolding turns
  kept_turns L P k zero r h = h
  kept_turns L P k (suc n) r h = by (doing M r.state) (kept_turns L P k n)
    where
      judged : (t : ℕ) (u : S) → M.act r.state ≡ goes t u → Judged M L (charge M r t u)
          → ((x : Run S) → P x → P (turns M n L x).run) → P (turns M (suc n) L r).run
      judged t u p (fine q f) later = rw (turns_goes M n L r t u p q) (later (charge M r t u) (k r t u h p f))
      judged t u p (over b q f) later = rw (turns_stops M n L r t u b p q) h

      by : Doing M r.state → ((x : Run S) → P x → P (turns M n L x).run) → P (turns M (suc n) L r).run
      by (stop e p) later = rw (turns_ends M n L r e p) h
      by (step t u p) later = judged t u p (judge M L (charge M r t u)) later

  -- where a run under limits stands; this asks nothing of the machine
  pub kept_limited : (L : Limits) (P : Run S → Type 0) → KeepsInside M L P → (r : Run S) → P r → P (limited M L r).run
  unfolding limited
  kept_limited L P k r h = kept_turns L P k (suc (L.time - r.time)) r h

  -- of states
  pub kept_limited_state : (L : Limits) (P : S → Type 0) → KeepsState M P → (r : Run S) → P r.state
      → P (limited M L r).run.state
  kept_limited_state L P k = kept_limited L (λ z. P z.state) (λ z t u h p f. k z.state t u h p)

  -- a run that starts inside the limits stands inside them
  pub limited_inside : (L : Limits) (r : Run S) → Inside M L r → Inside M L (limited M L r).run
  limited_inside L r h = kept_limited L (Inside M L) (λ z t u i p f. f) r h

  -- and its peak is no deeper than the limit on the stack
  pub limited_peak : (L : Limits) (r : Run S) → r.peak ≤ L.stack → (limited M L r).run.peak ≤ L.stack
  limited_peak L r h = kept_limited L (λ z. z.peak ≤ L.stack) (λ z t u i p f. max-le i f.stack) r h
