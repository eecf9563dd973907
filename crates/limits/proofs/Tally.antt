-- The figures of a run are what the executed instructions add up to.
use mathlib.Core.Path.{◌≡◌, refl, sym, ap}
use mathlib.Core.Option.{some}
use Prim.Native.Nat.{ℕ, zero, suc, ◌+◌, ◌-◌, ◌≤◌, max}
use native.Mathlib.Omega.{arith}
use Rattle.limits.specs.Machine.{goes, Machine, Run, charge, after, deeper}
use Rattle.limits.specs.Demand3.{Growing}
use Rattle.limits.specs.Figures.{tally, StepsAreNumber, TimeIsSum, PeakIsDeepest, HeapIsSum}
use Rattle.limits.specs.Kept.{Keeps}
use Rattle.limits.proofs.Steps.{after_zero, unstep}

module _ {S E : Type 0} (M : Machine S E) where
  pub tally_goes : (w : S → ℕ → S → ℕ) (n : ℕ) (s : S) (t : ℕ) (u : S) → M.act s ≡ goes t u
      → tally M w (suc n) s ≡ w s t u + tally M w n u
  unfolding tally
  tally_goes w n s t u p = rw (p, tally)

  -- a figure to which each instruction adds its weight, wherever a kept property holds, has grown by the sum
  pub adds_up_where : (P : Run S → Type 0) → Keeps M P → (g : Run S → ℕ) (w : S → ℕ → S → ℕ)
      → ((r : Run S) (t : ℕ) (u : S) → P r → M.act r.state ≡ goes t u → g (charge M r t u) ≡ g r + w r.state t u)
      → (n : ℕ) (r x : Run S) → after M n r ≡ some x → P r → g x ≡ g r + tally M w n r.state
  unfolding tally
  adds_up_where P k g w add zero r x a h = let e : g r ≡ g x = ap g (after_zero M r x a) in omega arith
  adds_up_where P k g w add (suc n) r x a h =
      let y = unstep M n r x a in
      let z = charge M r y.0 y.1 in
      let e = tally_goes w n r.state y.0 y.1 y.2 in
      let i = adds_up_where P k g w add n z x y.3 (k r y.0 y.1 h y.2) in
      omega (arith, e, i, add r y.0 y.1 h y.2)

  -- the same everywhere
  pub adds_up : (g : Run S → ℕ) (w : S → ℕ → S → ℕ)
      → ((r : Run S) (t : ℕ) (u : S) → M.act r.state ≡ goes t u → g (charge M r t u) ≡ g r + w r.state t u)
      → (n : ℕ) (r x : Run S) → after M n r ≡ some x → g x ≡ g r + tally M w n r.state
  adds_up g w add n r x a =
      adds_up_where (λ z. Unit {0}) (λ z t u h p. tt) g w (λ z t u h p. add z t u p) n r x a tt

  tally_ones : (n : ℕ) (r x : Run S) → after M n r ≡ some x → tally M (λ s t u. 1) n r.state ≡ n
  unfolding tally
  tally_ones zero r x a = refl
  tally_ones (suc n) r x a =
      let y = unstep M n r x a in
      let e = tally_goes (λ s t u. 1) n r.state y.0 y.1 y.2 in
      let h = tally_ones n (charge M r y.0 y.1) x y.3 in
      omega (arith, e, h)

  pub steps_are_number : StepsAreNumber M
  steps_are_number n r x a =
      let e = adds_up (λ z. z.steps) (λ s t u. 1) (λ z t u p. omega arith) n r x a in
      omega (arith, e, tally_ones n r x a)

  pub time_is_sum : TimeIsSum M
  time_is_sum n r x a = adds_up (λ z. z.time) (λ s t u. t) (λ z t u p. refl) n r x a

  pub heap_is_sum : HeapIsSum M
  heap_is_sum growing n r x a =
      adds_up (λ z. M.heap z.state) (λ s t u. M.heap u - M.heap s)
      (λ z t u p. omega (arith, growing z.state t u p)) n r x a

  pub deeper_goes : (n d : ℕ) (s : S) (t : ℕ) (u : S) → M.act s ≡ goes t u
      → deeper M (suc n) d s ≡ deeper M n (max d (M.depth u)) u
  unfolding deeper
  deeper_goes n d s t u p = rw (p, deeper)

  pub peak_is_deepest : PeakIsDeepest M
  unfolding deeper
  peak_is_deepest zero r x a = ap (λ (z : Run S). z.peak) (sym (after_zero M r x a))
  peak_is_deepest (suc n) r x a =
      let y = unstep M n r x a in
      rw (deeper_goes n r.peak r.state y.0 y.1 y.2)
      (peak_is_deepest n (charge M r y.0 y.1) x y.3)

  -- time and heap never fall
  pub time_grows : (n : ℕ) (r x : Run S) → after M n r ≡ some x → r.time ≤ x.time
  time_grows n r x a = omega (arith, time_is_sum n r x a)

  pub heap_grows : Growing M → (n : ℕ) (r x : Run S) → after M n r ≡ some x → M.heap r.state ≤ M.heap x.state
  heap_grows growing n r x a = omega (arith, heap_is_sum growing n r x a)
