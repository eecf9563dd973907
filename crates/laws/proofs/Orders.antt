-- Laws of stretches that lie one after another, as the tables of the rulesets and their parts of the rule order do.
use mathlib.Core.Path.{◌≡◌, refl, sym, ◌∙◌, subst}
use mathlib.Core.List.{List}
use Prim.Native.Nat.{ℕ, zero, suc, ◌+◌, ◌≤◌, ◌<◌}
use native.Mathlib.Nat.{not-suc-le-zero}
use native.Mathlib.Decide.{ℕ_discrete}
use native.Mathlib.Omega.{arith}
use lib.ListN.{length, get_or, drop}
use lib.Seq.{get_or-take, get_or-drop}
use Rattle.hume.specs.Image.{Program, order_at}
use Rattle.hume.specs.Refusals.{order_of}
use Rattle.laws.specs.Accepted.{OrderFits}
use Rattle.laws.proofs.Permutation.{permutation_lt}

-- A stretch ends before a later one begins.
pub stretches : (at long : ℕ → ℕ) → ((q : ℕ) → at (suc q) ≡ at q + long q) → (r q : ℕ) → r < q → at r + long r ≤ at q
stretches at long next r zero h = absurd (not-suc-le-zero h)
stretches at long next r (suc q) h = by (ℕ_discrete r q) (stretches at long next r q)
  where
    by : Dec (r ≡ q) → (r < q → at r + long r ≤ at q) → at r + long r ≤ at (suc q)
    by (yes e) later = subst (λ (k : ℕ). at r + long r ≤ k) (sym (next q)) (subst (λ (k : ℕ). at r + long r ≤ at k + long k) e (omega arith))
    by (no k) later =
        let l : at r + long r ≤ at q = later (omega arith) in
        let n : at (suc q) ≡ at q + long q = next q in
        omega arith

pub order_stretches : (P : Program) (r q : ℕ) → r < q → order_at P r + P.count r ≤ order_at P q
unfolding order_at
order_stretches P = stretches (order_at P) (λ r. P.count r) (λ q. refl)

-- The word k of a ruleset's stretch.
pub stretch_at : (P : Program) (order : List ℕ) (r k : ℕ) → k < P.count r
    → get_or (order_of P order r) k 0 ≡ get_or order (order_at P r + k) 0
unfolding order_of
stretch_at P order r k h =
    get_or-take (P.count r) (drop (order_at P r) order) k 0 h ∙ get_or-drop (order_at P r) order k 0

module _ {P : Program} {order : List ℕ} (f : OrderFits P order) (r : ℕ) (h : r < P.rulesets) where
  pub order_room : order_at P r + P.count r ≤ length order
  order_room =
      let a : order_at P r + P.count r ≤ order_at P P.rulesets = order_stretches P r P.rulesets h in
      let b : length order ≡ order_at P P.rulesets = f.long in
      omega arith

  -- A word of the order is the number of a rule of its ruleset.
  pub order_small : (k : ℕ) → k < P.count r → get_or order (order_at P r + k) 0 < P.count r
  order_small k l =
      subst (λ (x : ℕ). x < P.count r) (stretch_at P order r k l)
      (permutation_lt (P.count r) (order_of P order r) (f.each r h) k l)
