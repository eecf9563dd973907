-- The greatest depth after an instruction is the least number that no depth after one is above.
use mathlib.Core.Path.{◌≡◌, sym, ◌∙◌}
use mathlib.Core.Option.{some}
use Prim.Native.Nat.{ℕ, zero, suc, ◌≤◌, ◌<◌, max}
use native.Mathlib.Nat.{not-suc-le-zero, le_of_suc-le-suc, le_refl, le_trans, le-max_left, le-max_right, max-le}
use native.Mathlib.Omega.{arith}
use Rattle.limits.specs.Machine.{Machine, Run, charge, after, deeper, deepest}
use Rattle.limits.proofs.Steps.{next_goes, after_goes, after_zero, after_one, unstep}
use Rattle.limits.proofs.Tally.{deeper_goes}

module _ {S E : Type 0} (M : Machine S E) where
  deeper_base : (n d : ℕ) (r x : Run S) → after M n r ≡ some x → d ≤ deepest M n d r
  unfolding deeper
  deeper_base zero d r x a = le_refl d
  deeper_base (suc n) d r x a =
      let y = unstep M n r x a in
      rw (deeper_goes M n d r.state y.0 y.1 y.2)
      (le_trans (le-max_left d _) (deeper_base n (max d (M.depth y.1)) (charge M r y.0 y.1) x y.3))

  pub deeper_upper : (n k d : ℕ) (r y x : Run S) → k < n → after M (suc k) r ≡ some y → after M n r ≡ some x
      → M.depth y.state ≤ deepest M n d r
  deeper_upper zero k d r y x h b a = absurd (not-suc-le-zero h)
  deeper_upper (suc n) zero d r y x h b a =
      let z = unstep M n r x a in
      let v = charge M r z.0 z.1 in
      rw (
        deeper_goes M n d r.state z.0 z.1 z.2,
        ← (after_zero M v y (sym (after_goes M 0 r z.0 z.1 z.2) ∙ b)),
      )
      (le_trans (le-max_right d _) (deeper_base n (max d (M.depth z.1)) v x z.3))
  deeper_upper (suc n) (suc k) d r y x h b a =
      let z = unstep M n r x a in
      rw (deeper_goes M n d r.state z.0 z.1 z.2)
      (deeper_upper n k (max d (M.depth z.1)) (charge M r z.0 z.1) y x (le_of_suc-le-suc h)
      (sym (after_goes M (suc k) r z.0 z.1 z.2) ∙ b) z.3)

  pub deeper_least : (n d m : ℕ) (r x : Run S) → after M n r ≡ some x → d ≤ m
      → ((k : ℕ) (y : Run S) → k < n → after M (suc k) r ≡ some y → M.depth y.state ≤ m) → deepest M n d r ≤ m
  unfolding deeper
  deeper_least zero d m r x a h f = h
  deeper_least (suc n) d m r x a h f =
      let z = unstep M n r x a in
      let v = charge M r z.0 z.1 in
      let g = after_one M r v (next_goes M r z.0 z.1 z.2) in
      rw (deeper_goes M n d r.state z.0 z.1 z.2)
      (deeper_least n (max d (M.depth z.1)) m v x z.3 (max-le h (f 0 v (omega arith) g))
      (λ k y i b. f (suc k) y (omega arith) (after_goes M (suc k) r z.0 z.1 z.2 ∙ b)))
