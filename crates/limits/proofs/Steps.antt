-- The executions of the machine with no limits, an instruction at a time.
use mathlib.Core.Path.{◌≡◌, refl, sym, ap, ◌∙◌, subst}
use mathlib.Core.Option.{none, some, some-injective, none-ne-some}
use Prim.Native.Nat.{ℕ, zero, suc, ◌+◌, ◌≤◌}
use native.Mathlib.Nat.{zero-add, suc-add, not-suc-le-zero, le_of_suc-le-suc}
use native.Mathlib.Omega.{arith}
use Rattle.limits.specs.Machine.{Act, ends, goes, Machine, Run, Limits, Larger}
use Rattle.limits.specs.Machine.{charge, taken, next, after, Inside, AllInside}

module _ {S E : Type 0} (M : Machine S E) where
  -- ---- one instruction

  -- what the machine does in s, with the equation
  pub data Doing (s : S) : Type 0 where
    stop : (e : E) → M.act s ≡ ends e → Doing s
    step : (t : ℕ) (u : S) → M.act s ≡ goes t u → Doing s

  pub doing : (s : S) → Doing s
  doing s = by (M.act s) refl
    where
      by : (a : Act S E) → M.act s ≡ a → Doing s
      by (ends e) p = stop e p
      by (goes t u) p = step t u p

  pub next_goes : (r : Run S) (t : ℕ) (u : S) → M.act r.state ≡ goes t u → next M r ≡ some (charge M r t u)
  next_goes r t u p = ap (taken M r) p

  pub next_ends : (r : Run S) (e : E) → M.act r.state ≡ ends e → next M r ≡ none
  next_ends r e p = ap (taken M r) p

  -- ---- n instructions

  pub after_nil : (r : Run S) → after M 0 r ≡ some r
  unfolding after
  after_nil r = refl

  pub after_next : (n : ℕ) (r x : Run S) → next M r ≡ some x → after M (suc n) r ≡ after M n x
  unfolding after
  after_next n r x p = rw (p, after)

  pub after_goes : (n : ℕ) (r : Run S) (t : ℕ) (u : S) → M.act r.state ≡ goes t u
      → after M (suc n) r ≡ after M n (charge M r t u)
  after_goes n r t u p = after_next n r (charge M r t u) (next_goes r t u p)

  after_none : (n : ℕ) (r : Run S) → next M r ≡ none → after M (suc n) r ≡ none
  unfolding after
  after_none n r p = rw (p, after)

  -- no instruction follows an ending
  pub after_ends : (n : ℕ) (r x : Run S) (e : E) → M.act r.state ≡ ends e → after M (suc n) r ≡ some x → ⊥
  after_ends n r x e p a = none-ne-some x (sym (after_none n r (next_ends r e p)) ∙ a)

  pub after_zero : (r x : Run S) → after M 0 r ≡ some x → r ≡ x
  unfolding after
  after_zero r x a = some-injective r x a

  pub after_one : (r x : Run S) → next M r ≡ some x → after M 1 r ≡ some x
  after_one r x p = after_next 0 r x p ∙ after_nil x

  -- the first of them, and the rest
  pub unstep : (n : ℕ) (r x : Run S) → after M (suc n) r ≡ some x
      → (t : ℕ) × (u : S) × (M.act r.state ≡ goes t u) × (after M n (charge M r t u) ≡ some x)
  unstep n r x a = by (doing r.state)
    where
      by : Doing r.state → (t : ℕ) × (u : S) × (M.act r.state ≡ goes t u) × (after M n (charge M r t u) ≡ some x)
      by (stop e p) = absurd (after_ends n r x e p a)
      by (step t u p) = (t, u, p, sym (after_goes n r t u p) ∙ a)

  -- n instructions, and then m
  pub after_add : (n m : ℕ) (r x : Run S) → after M n r ≡ some x → after M (n + m) r ≡ after M m x
  after_add zero m r x a = rw (zero-add m) (ap (after M m) (after_zero r x a))
  after_add (suc n) m r x a =
      let y = unstep n r x a in
      rw (suc-add n m) (after_goes (n + m) r y.0 y.1 y.2 ∙ after_add n m (charge M r y.0 y.1) x y.3)

  -- n instructions, and then one
  pub after_last : (n : ℕ) (r x y : Run S) → after M n r ≡ some x → next M x ≡ some y → after M (suc n) r ≡ some y
  after_last zero r x y a p = after_one r y (rw (after_zero r x a) p)
  after_last (suc n) r x y a p =
      let z = unstep n r x a in
      after_goes (suc n) r z.0 z.1 z.2 ∙ after_last n (charge M r z.0 z.1) x y z.3 p

  -- from a run on the way, the rest leads to the same end
  pub remaining : (k n : ℕ) (r y x : Run S) → k ≤ n → after M k r ≡ some y → after M n r ≡ some x
      → (m : ℕ) × (after M m y ≡ some x)
  remaining zero n r y x h b a = (n, rw (← (after_zero r y b)) a)
  remaining (suc k) zero r y x h b a = absurd (not-suc-le-zero h)
  remaining (suc k) (suc n) r y x h b a =
      let z = unstep n r x a in
      remaining k n (charge M r z.0 z.1) y x (le_of_suc-le-suc h)
      (sym (after_goes k r z.0 z.1 z.2) ∙ b) z.3

  -- no execution is longer than one to an ending
  pub longest : (n m : ℕ) (r x y : Run S) (e : E) → after M n r ≡ some x → M.act x.state ≡ ends e
      → after M m r ≡ some y → m ≤ n
  longest n zero r x y e a p b = omega arith
  longest zero (suc m) r x y e a p b =
      absurd (after_ends m r y e (rw (after_zero r x a) p) b)
  longest (suc n) (suc m) r x y e a p b =
      let z = unstep n r x a in
      let h = longest n m (charge M r z.0 z.1) x y e z.3 p (sym (after_goes m r z.0 z.1 z.2) ∙ b) in
      omega (arith, h)

  -- ---- every instruction inside the limits

  pub inside_nil : (L : Limits) (r : Run S) → AllInside M L 0 r
  inside_nil L r k x h a = absurd (not-suc-le-zero h)

  pub inside_cons : (L : Limits) (n : ℕ) (r x : Run S) → next M r ≡ some x → Inside M L x → AllInside M L n x
      → AllInside M L (suc n) r
  inside_cons L n r x p f w zero y h a = subst (Inside M L) (after_zero x y (sym (after_next 0 r x p) ∙ a)) f
  inside_cons L n r x p f w (suc k) y h a = w k y (le_of_suc-le-suc h) (sym (after_next (suc k) r x p) ∙ a)

  pub inside_head : (L : Limits) (n : ℕ) (r x : Run S) → next M r ≡ some x → AllInside M L (suc n) r → Inside M L x
  inside_head L n r x p w = w 0 x (omega arith) (after_one r x p)

  pub inside_tail : (L : Limits) (n : ℕ) (r x : Run S) → next M r ≡ some x → AllInside M L (suc n) r → AllInside M L n x
  inside_tail L n r x p w k y h a = w (suc k) y (omega arith) (after_next (suc k) r x p ∙ a)

  pub inside_larger : (L K : Limits) (x : Run S) → Larger L K → Inside M L x → Inside M K x
  inside_larger L K x l f = record { time = omega arith; stack = omega arith; heap = omega arith }

  pub all_larger : (L K : Limits) (n : ℕ) (r : Run S) → Larger L K → AllInside M L n r → AllInside M K n r
  all_larger L K n r l w k x h a = inside_larger L K x l (w k x h a)
