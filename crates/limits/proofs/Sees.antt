-- A machine seen as another: their runs under limits agree.
use mathlib.Core.Path.{◌≡◌, refl, sym, ap, ◌∙◌}
use Prim.Native.Nat.{ℕ, zero, suc, ◌-◌}
use Rattle.limits.specs.Machine.{goes, Machine, Run, Limits, charge, broken, turns, limited}
use Rattle.limits.specs.Sees.{see_act, see_run, see_outcome, Sees, SeesInside}
use Rattle.limits.proofs.Steps.{Doing, stop, step, doing}
use Rattle.limits.proofs.Promise.{Judged, fine, over, judge, turns_ends, turns_stops, turns_goes}

module _ {S S' E : Type 0} (M : Machine S E) (N : Machine S' E) (f : S → S') (L : Limits) where
  see_charge : (r : Run S) (t : ℕ) (u : S) → N.depth (f u) ≡ M.depth u
      → charge N (see_run f r) t (f u) ≡ see_run f (charge M r t u)
  see_charge r t u d = rw d

  see_broken : (x : Run S) → N.depth (f x.state) ≡ M.depth x.state → N.heap (f x.state) ≡ M.heap x.state
      → broken N L (see_run f x) ≡ broken M L x
  see_broken x d h = rw (d, h)

  module _ (P : Run S → Type 0) (sees : SeesInside M N f L P) where
    see_turns : (n : ℕ) (r : Run S) → P r → turns N n L (see_run f r) ≡ see_outcome f (turns M n L r)
    unfolding turns
    see_turns zero r h = refl
    see_turns (suc n) r h = by (doing M r.state) (see_turns n)
      where
        Later : Type 0
        Later = (x : Run S) → P x → turns N n L (see_run f x) ≡ see_outcome f (turns M n L x)

        judged : (t : ℕ) (u : S) → M.act r.state ≡ goes t u → Judged M L (charge M r t u) → Later
            → broken N L (charge N (see_run f r) t (f u)) ≡ broken M L (charge M r t u)
            → turns N (suc n) L (see_run f r) ≡ see_outcome f (turns M (suc n) L r)
        judged t u p (fine q g) later b =
            turns_goes N n L (see_run f r) t (f u) (sees.act r h ∙ ap (see_act f) p) (b ∙ q)
            ∙ ap (turns N n L) (see_charge r t u (sees.depth r t u h p))
            ∙ later (charge M r t u) (sees.keeps r t u h p g)
            ∙ sym (ap (see_outcome f) (turns_goes M n L r t u p q))
        judged t u p (over c q g) later b =
            turns_stops N n L (see_run f r) t (f u) c (sees.act r h ∙ ap (see_act f) p) (b ∙ q)
            ∙ sym (ap (see_outcome f) (turns_stops M n L r t u c p q))

        by : Doing M r.state → Later → turns N (suc n) L (see_run f r) ≡ see_outcome f (turns M (suc n) L r)
        by (stop e p) later =
            turns_ends N n L (see_run f r) e (sees.act r h ∙ ap (see_act f) p)
            ∙ sym (ap (see_outcome f) (turns_ends M n L r e p))
        by (step t u p) later =
            judged t u p (judge M L (charge M r t u)) later
            (ap (broken N L) (see_charge r t u (sees.depth r t u h p))
            ∙ see_broken (charge M r t u) (sees.depth r t u h p) (sees.heap r t u h p))

    -- The run of N from what f makes of r is what f makes of the run of M: the same ending, the same figures.
    pub limited_sees_inside : (r : Run S) → P r → limited N L (see_run f r) ≡ see_outcome f (limited M L r)
    unfolding limited
    limited_sees_inside r h = see_turns (suc (L.time - r.time)) r h

-- The same where P is of states and every instruction keeps it.
pub limited_sees : {S S' E : Type 0} (M : Machine S E) (N : Machine S' E) (f : S → S') (P : S → Type 0) → Sees M N f P
    → (L : Limits) (r : Run S) → P r.state → limited N L (see_run f r) ≡ see_outcome f (limited M L r)
limited_sees M N f P sees L =
    limited_sees_inside M N f L (λ z. P z.state)
    (record {
      act = λ z h. sees.act z.state h;
      depth = λ z t u h p. sees.depth u (sees.keeps z.state t u h p);
      heap = λ z t u h p. sees.heap u (sees.keeps z.state t u h p);
      keeps = λ z t u h p g. sees.keeps z.state t u h p;
    })
