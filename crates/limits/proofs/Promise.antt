-- The run under limits meets the promise, and the promise determines the outcome.
use mathlib.Core.Path.{◌≡◌, refl, sym, ap, ◌∙◌, subst}
use mathlib.Core.Bool.{Bool, true, false}
use mathlib.Core.Option.{none, some, some-injective, none-ne-some}
use mathlib.Core.Logic.{◌↔◌}
use Prim.Native.Nat.{ℕ, zero, suc, ◌+◌, ◌-◌, ◌≤◌, ◌<◌}
use native.Mathlib.Nat.{lt_of_not-le}
use native.Mathlib.Decide.{dec_le}
use native.Mathlib.Omega.{arith}
use borrow.Author.Tests.{ltb-true, ltb-false}
use Rattle.limits.specs.Machine.{ends, goes, Machine, Run, Limits, Limit, Time, Stack, Heap, Ending, own, limit}
use Rattle.limits.specs.Machine.{Outcome, ended, stopped, above, charge, next, after, Inside, AllInside, Breaks}
use Rattle.limits.specs.Machine.{broken, turns, limited}
use Rattle.limits.specs.Demand3.{Costly, Stops, Promise, Ends, Unique}
use Rattle.limits.proofs.Steps.{Doing, stop, step, doing, next_goes, next_ends, after_nil, after_next}
use Rattle.limits.proofs.Steps.{after_goes, after_ends, after_zero, unstep}
use Rattle.limits.proofs.Steps.{inside_nil, inside_cons, inside_head, inside_tail}

-- ---- the test of one limit

above_met : (l n : ℕ) → n ≤ l → above l n ≡ false
above_met l n h = by (above l n) refl
  where
    by : (c : Bool) → above l n ≡ c → c ≡ false
    by true e = absurd (omega (arith, ltb-true))
    by false e = refl

above_over : (l n : ℕ) → l < n → above l n ≡ true
above_over l n h = by (above l n) refl
  where
    by : (c : Bool) → above l n ≡ c → c ≡ true
    by true e = refl
    by false e = absurd (omega (arith, ltb-false))

module _ {S E : Type 0} (M : Machine S E) where
  -- ---- the first limit broken, as it computes and as a fact

  pub data Judged (L : Limits) (x : Run S) : Type 0 where
    fine : broken M L x ≡ none → Inside M L x → Judged L x
    over : (b : Limit) → broken M L x ≡ some b → Breaks M L b x → Judged L x

  pub judge : (L : Limits) (x : Run S) → Judged L x
  judge L x = by (dec_le x.time L.time) (dec_le d L.stack) (dec_le h L.heap)
    where
      d : ℕ
      d = M.depth x.state

      h : ℕ
      h = M.heap x.state

      by : Dec (x.time ≤ L.time) → Dec (d ≤ L.stack) → Dec (h ≤ L.heap) → Judged L x
      by (yes a) (yes b) (yes c) =
          fine (simp (above_met _ _ a, above_met _ _ b, above_met _ _ c)) (record { time = a; stack = b; heap = c })
      by (yes a) (yes b) (no c) =
          over Heap (simp (above_met _ _ a, above_met _ _ b, above_over _ _ (lt_of_not-le c))) (a, b, lt_of_not-le c)
      by (yes a) (no b) c = over Stack (simp (above_met _ _ a, above_over _ _ (lt_of_not-le b))) (a, lt_of_not-le b)
      by (no a) b c = over Time (simp (above_over _ _ (lt_of_not-le a))) (lt_of_not-le a)

  pub not_both : (L : Limits) (b : Limit) (x : Run S) → Inside M L x → Breaks M L b x → ⊥
  not_both L Time x f h = omega arith
  not_both L Stack x f h = omega arith
  not_both L Heap x f h = omega arith

  pub breaks_one : (L : Limits) (b c : Limit) (x : Run S) → Breaks M L b x → Breaks M L c x → b ≡ c
  breaks_one L Time Time x g h = refl
  breaks_one L Time Stack x g h = absurd (omega arith)
  breaks_one L Time Heap x g h = absurd (omega arith)
  breaks_one L Stack Time x g h = absurd (omega arith)
  breaks_one L Stack Stack x g h = refl
  breaks_one L Stack Heap x g h = absurd (omega arith)
  breaks_one L Heap Time x g h = absurd (omega arith)
  breaks_one L Heap Stack x g h = absurd (omega arith)
  breaks_one L Heap Heap x g h = refl

  -- ---- a turn

  pub turns_ends : (n : ℕ) (L : Limits) (r : Run S) (e : E) → M.act r.state ≡ ends e
      → turns M (suc n) L r ≡ ended e r
  unfolding turns
  turns_ends n L r e p = rw (p, turns)

  pub turns_stops : (n : ℕ) (L : Limits) (r : Run S) (t : ℕ) (u : S) (b : Limit) → M.act r.state ≡ goes t u
      → broken M L (charge M r t u) ≡ some b → turns M (suc n) L r ≡ stopped b r
  unfolding turns
  turns_stops n L r t u b p q = rw (p, q, turns)

  pub turns_goes : (n : ℕ) (L : Limits) (r : Run S) (t : ℕ) (u : S) → M.act r.state ≡ goes t u
      → broken M L (charge M r t u) ≡ none → turns M (suc n) L r ≡ turns M n L (charge M r t u)
  unfolding turns
  turns_goes n L r t u p q = rw (p, q, turns)

  -- ---- the promise, an instruction at a time

  pub promise_nil : (L : Limits) (r : Run S) (e : Ending E) → Stops M L r e
      → Promise M L r (record { ending = e; run = r })
  promise_nil L r e s = record { count = 0; reached = after_nil M r; inside = inside_nil M L r; stops = s }

  pub promise_cons : (L : Limits) (r x : Run S) (q : Outcome S E) → next M r ≡ some x → Inside M L x → Promise M L x q
      → Promise M L r q
  promise_cons L r x q p f w =
      record {
        count = suc w.count;
        reached = after_next M w.count r x p ∙ w.reached;
        inside = inside_cons M L w.count r x p f w.inside;
        stops = w.stops;
      }

  pub promise_skip : (L : Limits) (n : ℕ) (r x : Run S) (q : Outcome S E) → after M n r ≡ some x → AllInside M L n r
      → Promise M L x q → Promise M L r q
  promise_skip L zero r x q a w h = rw (after_zero M r x a) h
  promise_skip L (suc n) r x q a w h =
      let y = unstep M n r x a in
      let z = charge M r y.0 y.1 in
      let p = next_goes M r y.0 y.1 y.2 in
      promise_cons L r z q p (inside_head M L n r z p w) (promise_skip L n z x q y.3 (inside_tail M L n r z p w) h)

  -- ---- the function meets it

  turn_meets : (n : ℕ) (L : Limits) (r : Run S)
      → ((t : ℕ) (u : S) → M.act r.state ≡ goes t u → Inside M L (charge M r t u)
      → Promise M L (charge M r t u) (turns M n L (charge M r t u)))
      → Promise M L r (turns M (suc n) L r)
  turn_meets n L r later = by (doing M r.state)
    where
      judged : (t : ℕ) (u : S) → M.act r.state ≡ goes t u → Judged L (charge M r t u)
          → Promise M L r (turns M (suc n) L r)
      judged t u p (fine q f) =
          rw (turns_goes n L r t u p q)
          (promise_cons L r (charge M r t u) (turns M n L (charge M r t u)) (next_goes M r t u p) f (later t u p f))
      judged t u p (over b q f) =
          rw (turns_stops n L r t u b p q) (promise_nil L r (limit b) (charge M r t u, next_goes M r t u p, f))

      by : Doing M r.state → Promise M L r (turns M (suc n) L r)
      by (stop e p) = rw (turns_ends n L r e p) (promise_nil L r (own e) p)
      by (step t u p) = judged t u p (judge L (charge M r t u))

  -- the time left falls with each instruction, so a turn more than it is enough
  turns_meet : Costly M → (n : ℕ) (L : Limits) (r : Run S) → L.time ≤ r.time + n → Promise M L r (turns M (suc n) L r)
  turns_meet costly zero L r h = turn_meets 0 L r (λ t u p f. absurd (omega (arith, costly r.state t u p)))
  turns_meet costly (suc n) L r h =
      turn_meets (suc n) L r
      (λ t u p f. turns_meet costly n L (charge M r t u) (omega (arith, costly r.state t u p)))

  pub limited_meets : Ends M
  unfolding limited
  limited_meets costly L r = turns_meet costly (L.time - r.time) L r (omega arith)

  -- ---- it determines the outcome

  one_stop : (L : Limits) (r : Run S) (e f : Ending E) → Stops M L r e → Stops M L r f → e ≡ f
  one_stop L r (own e) (own f) p q = cc
  one_stop L r (own e) (limit c) p q = absurd (none-ne-some q.0 (sym (next_ends M r e p) ∙ q.1))
  one_stop L r (limit b) (own f) p q = absurd (none-ne-some p.0 (sym (next_ends M r f q) ∙ p.1))
  one_stop L r (limit b) (limit c) p q =
      ap {B = Ending E} limit
      (breaks_one L b c p.0 p.2 (rw (some-injective p.0 q.0 (sym p.1 ∙ q.1)) q.2))

  -- where a run may stop, no instruction stays inside
  none_inside : (L : Limits) (n : ℕ) (r y : Run S) (e : Ending E) → Stops M L r e → after M (suc n) r ≡ some y
      → AllInside M L (suc n) r → ⊥
  none_inside L n r y (own e) p a w = after_ends M n r y e p a
  none_inside L n r y (limit b) p a w = not_both L b p.0 (inside_head M L n r p.0 p.1 w) p.2

  outcome_eq : (p q : Outcome S E) → p.run ≡ q.run → p.ending ≡ q.ending → p ≡ q
  outcome_eq p q a e = λ i. record { ending = e i; run = a i }

  one_outcome : (L : Limits) (m n : ℕ) (r : Run S) (p q : Outcome S E)
      → after M m r ≡ some p.run → AllInside M L m r → Stops M L p.run p.ending
      → after M n r ≡ some q.run → AllInside M L n r → Stops M L q.run q.ending → p ≡ q
  one_outcome L zero zero r p q a v s b w t =
      let e : p.run ≡ q.run = sym (after_zero M r p.run a) ∙ after_zero M r q.run b in
      let v = subst (λ (z : Run S). Stops M L z p.ending) e s in
      outcome_eq p q e (one_stop L q.run p.ending q.ending v t)
  one_outcome L zero (suc n) r p q a v s b w t =
      absurd (none_inside L n r q.run p.ending (rw (after_zero M r p.run a) s) b w)
  one_outcome L (suc m) zero r p q a v s b w t =
      absurd (none_inside L m r p.run q.ending (rw (after_zero M r q.run b) t) a v)
  one_outcome L (suc m) (suc n) r p q a v s b w t =
      let y = unstep M m r p.run a in
      let z = charge M r y.0 y.1 in
      let g = next_goes M r y.0 y.1 y.2 in
      one_outcome L m n z p q y.3 (inside_tail M L m r z g v) s
      (sym (after_goes M n r y.0 y.1 y.2) ∙ b) (inside_tail M L n r z g w) t

  pub promise_unique : Unique M
  promise_unique L r p q v w =
      one_outcome L v.count w.count r p q v.reached v.inside v.stops w.reached w.inside w.stops

  -- so it says exactly that the outcome is the function's
  pub promise_exactly : Costly M → (L : Limits) (r : Run S) (q : Outcome S E) → (limited M L r ≡ q) ↔ Promise M L r q
  promise_exactly costly L r q = (
    λ e. subst (Promise M L r) e (limited_meets costly L r),
    λ w. promise_unique L r (limited M L r) q (limited_meets costly L r) w,
  )
