-- Each clause of demand 3 is met, over any machine.
use mathlib.Core.Path.{◌≡◌, refl, sym, ap, subst}
use mathlib.Core.Option.{some}
use Prim.Native.Nat.{ℕ, zero, suc, pred, ◌≤◌, ◌<◌}
use native.Mathlib.Nat.{not-suc-le-zero, le_refl, le_antisymm}
use native.Mathlib.Omega.{arith}
use Rattle.limits.specs.Machine.{ends, Machine, Run, fresh, Limits, Limit, Time, Stack, Heap, Ending, own, limit}
use Rattle.limits.specs.Machine.{ended, stopped, Larger, after, deeper, Inside, AllInside, Breaks, limited}
use Rattle.limits.specs.Demand3.{one_of, less, Costly, Growing, Reaches, Promise, needs, Used, figures}
use Rattle.limits.specs.Demand3.{OwnExactly, LimitExactly, LargerKeeps, GoesOn, Enough, TooFew, Least}
use Rattle.limits.specs.Demand3.{FiguresEnough, FiguresTooFew, FiguresLeast, Demand3}
use Rattle.limits.proofs.Steps.{after_zero, after_last, remaining, longest, all_larger}
use Rattle.limits.proofs.Tally.{peak_is_deepest, time_grows, heap_grows}
use Rattle.limits.proofs.Depth.{deeper_upper, deeper_least}
use Rattle.limits.proofs.Promise.{limited_meets, promise_unique, promise_exactly, promise_skip}

no_less : (L : Limits) (b : Limit) → 0 < one_of L b → Larger L (less L b) → ⊥
no_less L Time h l = let f : L.time ≤ pred L.time = l.time in omega arith
no_less L Stack h l = let f : L.stack ≤ pred L.stack = l.stack in omega arith
no_less L Heap h l = let f : L.heap ≤ pred L.heap = l.heap in omega arith

module _ {S E : Type 0} (M : Machine S E) where
  -- ---- own endings and limits

  pub own_exactly : OwnExactly M
  own_exactly costly L r e x = (
    λ p.
        let w = (promise_exactly M costly L r (ended e x)).0 p in
        (record { count = w.count; reached = w.reached; ending = w.stops }, w.inside),
    λ c.
        (promise_exactly M costly L r (ended e x)).1
        (record { count = c.0.count; reached = c.0.reached; inside = c.1; stops = c.0.ending }),
  )

  pub limit_exactly : LimitExactly M
  limit_exactly costly L r b x = (
    λ p.
        let w = (promise_exactly M costly L r (stopped b x)).0 p in
        record {
          count = w.count;
          reached = w.reached;
          inside = w.inside;
          to = w.stops.0;
          offending = w.stops.1;
          breaks = w.stops.2;
        },
    λ c.
        (promise_exactly M costly L r (stopped b x)).1
        (record {
          count = c.count;
          reached = c.reached;
          inside = c.inside;
          stops = (c.to, c.offending, c.breaks);
        }),
  )

  -- ---- larger limits

  pub larger_keeps : LargerKeeps M
  larger_keeps costly L K l r e x p =
      let c = (own_exactly costly L r e x).0 p in
      (own_exactly costly K r e x).1 (c.0, all_larger M L K c.0.count r l c.1)

  pub goes_on : GoesOn M
  goes_on costly L K l r =
      let p = limited_meets M costly L r in
      let x = (limited M L r).run in
      promise_unique M K r (limited M K x) (limited M K r)
      (promise_skip M K p.count r x (limited M K x) p.reached (all_larger M L K p.count r l p.inside)
      (limited_meets M costly K x))
      (limited_meets M costly K r)

  -- ---- the least limits

  needs_inside : Growing M → (n : ℕ) (r x : Run S) → after M n r ≡ some x → AllInside M (needs M n r x) n r
  needs_inside growing n r x a k y h b =
      let z = remaining M (suc k) n r y x h b a in
      record {
        time = time_grows M z.0 y x z.1;
        stack = deeper_upper M n k 0 r y x h b a;
        heap = heap_grows M growing z.0 y x z.1;
      }

  pub enough : Enough M
  enough costly growing r e x c =
      (own_exactly costly (needs M c.count r x) r e x).1 (c, needs_inside growing c.count r x c.reached)

  -- limits inside which instructions stay are as large as what they need
  needed : (K : Limits) (n : ℕ) (r x : Run S) → after M n r ≡ some x → 0 < n → AllInside M K n r
      → Larger (needs M n r x) K
  needed K zero r x a h w = absurd (not-suc-le-zero h)
  needed K (suc n) r x a h w =
      let f = w n x (le_refl (suc n)) a in
      record {
        time = f.time;
        stack = deeper_least M (suc n) 0 K.stack r x a (omega arith) (λ k y i b. (w k y i b).stack);
        heap = f.heap;
      }

  -- every execution to an ending is as long
  same_count : (m n : ℕ) (r x y : Run S) (e f : E) → after M m r ≡ some x → M.act x.state ≡ ends e
      → after M n r ≡ some y → M.act y.state ≡ ends f → m ≡ n
  same_count m n r x y e f a p b q = le_antisymm (longest M n m r y x f b q a) (longest M m n r x y e a p b)

  own_inside : Costly M → (K : Limits) (r : Run S) (e : E) (x : Run S) (c : Reaches M r e x) → limited M K r ≡ ended e x
      → AllInside M K c.count r
  own_inside costly K r e x c p =
      let d = (own_exactly costly K r e x).0 p in
      rw (same_count c.count d.0.count r x x e e c.reached c.ending d.0.reached d.0.ending) d.1

  pub least : Least M
  least costly growing K r e x c h = (
    λ p. needed K c.count r x c.reached h (own_inside costly K r e x c p),
    λ l. larger_keeps costly (needs M c.count r x) K l r e x (enough costly growing r e x c),
  )

  used_some : (n : ℕ) (r x : Run S) (b : Limit) → Used M n r x b → 0 < one_of (needs M n r x) b
  used_some n r x Time u = omega arith
  used_some n r x Stack u = u
  used_some n r x Heap u = omega arith

  -- with one less of what they used, some instruction is not inside
  short : (n : ℕ) (r x : Run S) → after M n r ≡ some x → (b : Limit) → Used M n r x b
      → AllInside M (less (needs M n r x) b) n r → ⊥
  unfolding deeper
  short zero r x a Time u w =
      let e : r.time ≡ x.time = ap (λ (z : Run S). z.time) (after_zero M r x a) in omega arith
  short zero r x a Stack u w = not-suc-le-zero u
  short zero r x a Heap u w =
      let e : M.heap r.state ≡ M.heap x.state = ap (λ (z : Run S). M.heap z.state) (after_zero M r x a) in
      omega arith
  short (suc n) r x a b u w =
      let l = needed (less (needs M (suc n) r x) b) (suc n) r x a (omega arith) w in
      no_less (needs M (suc n) r x) b (used_some (suc n) r x b u) l

  -- a run that is inside some limits breaks, of the same with one less, only that one
  the_lessened : (L : Limits) (b c : Limit) (y : Run S) → Inside M L y → Breaks M (less L b) c y → c ≡ b
  the_lessened L Time Time y f g = refl
  the_lessened L Time Stack y f g = absurd (omega arith)
  the_lessened L Time Heap y f g = absurd (omega arith)
  the_lessened L Stack Time y f g = absurd (omega arith)
  the_lessened L Stack Stack y f g = refl
  the_lessened L Stack Heap y f g = absurd (omega arith)
  the_lessened L Heap Time y f g = absurd (omega arith)
  the_lessened L Heap Stack y f g = absurd (omega arith)
  the_lessened L Heap Heap y f g = refl

  pub too_few : TooFew M
  too_few costly growing r e x c b u = by (limited M L r).ending (limited M L r).run (limited_meets M costly L r)
    where
      n : ℕ
      n = c.count

      L : Limits
      L = less (needs M n r x) b

      by : (f : Ending E) (y : Run S) → Promise M L r (record { ending = f; run = y }) → f ≡ limit b
      by (own f) y p =
          absurd (short n r x c.reached b u
          (subst (λ (k : ℕ). AllInside M L k r)
          (same_count p.count n r y x f e p.reached p.stops c.reached c.ending) p.inside))
      by (limit d) y p =
          let z = p.stops.0 in
          let a = after_last M p.count r y z p.reached p.stops.1 in
          let h = longest M n (suc p.count) r x z e c.reached c.ending a in
          ap {B = Ending E} limit
          (the_lessened (needs M n r x) b d z (needs_inside growing n r x c.reached p.count z h a) p.stops.2)

  -- ---- in the figures, from a fresh start

  needs_figures : (s : S) (n : ℕ) (x : Run S) → after M n (fresh s) ≡ some x → needs M n (fresh s) x ≡ figures M x
  needs_figures s n x a =
      ap {B = Limits} (λ (d : ℕ). record { time = x.time; stack = d; heap = M.heap x.state })
      (sym (peak_is_deepest M n (fresh s) x a))

  pub figures_enough : FiguresEnough M
  figures_enough costly growing s e x c =
      subst (λ (L : Limits). limited M L (fresh s) ≡ ended e x) (needs_figures s c.count x c.reached)
      (enough costly growing (fresh s) e x c)

  pub figures_too_few : FiguresTooFew M
  figures_too_few costly growing s z e x c b u =
      subst (λ (L : Limits). (limited M (less L b) (fresh s)).ending ≡ limit b)
      (needs_figures s c.count x c.reached) (too_few costly growing (fresh s) e x c b (used b u))
    where
      used : (d : Limit) → 0 < one_of (figures M x) d → Used M c.count (fresh s) x d
      used Time h = h
      used Stack h = rw (← (peak_is_deepest M c.count (fresh s) x c.reached)) h
      used Heap h = rw z h

  pub figures_least : FiguresLeast M
  figures_least costly growing s z K e x c = (
    λ p. by c.count c.reached (own_inside costly K (fresh s) e x c p),
    λ l. larger_keeps costly (figures M x) K l (fresh s) e x (figures_enough costly growing s e x c),
  )
    where
      by : (n : ℕ) → after M n (fresh s) ≡ some x → AllInside M K n (fresh s) → Larger (figures M x) K
      by zero a w =
          subst (λ (y : Run S). Larger (figures M y) K) (after_zero M (fresh s) x a)
          (record { time = omega arith; stack = omega arith; heap = omega (arith, z) })
      by (suc n) a w =
          let l = needed K (suc n) (fresh s) x a (omega arith) w in
          subst (λ (L : Limits). Larger L K) (needs_figures s (suc n) x a) l

  -- ---- all of it

  pub demand3 : Demand3 M
  demand3 =
      record {
        is_met = limited_meets M;
        unique = promise_unique M;
        own_exactly = own_exactly;
        limit_exactly = limit_exactly;
        larger_keeps = larger_keeps;
        goes_on = goes_on;
        enough = enough;
        too_few = too_few;
        least = least;
        figures_enough = figures_enough;
        figures_too_few = figures_too_few;
        figures_least = figures_least;
      }
