-- Properties that the machine's instructions keep.
use Rattle.std.specs.Prelude.{◌≡◌, ℕ}
use Rattle.limits.specs.Machine.{goes, Machine, Run, Limits, charge, Inside}

module _ {S E : Type 0} (M : Machine S E) where
  -- Every instruction keeps this property of states.
  abbrev pub KeepsState : (S → Type 0) → Type 0
  KeepsState P = (s : S) (t : ℕ) (u : S) → P s → M.act s ≡ goes t u → P u

  -- Every instruction keeps this property of runs.
  abbrev pub Keeps : (Run S → Type 0) → Type 0
  Keeps P = (r : Run S) (t : ℕ) (u : S) → P r → M.act r.state ≡ goes t u → P (charge M r t u)

  -- Every instruction that stays inside the limits keeps it.
  abbrev pub KeepsInside : Limits → (Run S → Type 0) → Type 0
  KeepsInside L P =
      (r : Run S) (t : ℕ) (u : S) → P r → M.act r.state ≡ goes t u → Inside M L (charge M r t u)
      → P (charge M r t u)
