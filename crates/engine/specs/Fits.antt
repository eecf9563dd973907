-- Plain facts of the registers between turns, from which every index and sum of the code is in range.
use Rattle.std.specs.Prelude.{◌≡◌, List, ℕ, ◌+◌, ◌/◌, ◌%◌, ◌^◌, ◌≤◌, ◌<◌, length, get_or}
use Rattle.std.specs.Coded.{le_prop}
use native.Mathlib.Nat.{ℕ_set, lt_irrefl, lt_of_lt_of_le, le_trans, le-add_right}
use mathlib.Core.Path.{ap, subst}
use Rattle.gate.specs.declared.image.Start.{Start}
use Rattle.gate.specs.Parts.{start_at}
use Rattle.hume.specs.Image.{Program, program, code_at, ruleset_at, order_at}
use Rattle.laws.specs.Accepted.{Handler, absent, present, Bytes, Accepted}
use Rattle.engine.specs.declared.regs.Regs.{Regs}

pub record Fit (r : Regs) : Type 0 where
  pub pc : r.pc < 4096
  pub sp : r.sp ≤ 4096
  pub hp : r.hp ≤ 16384
  pub fp : r.fp ≤ r.lp
  pub lp : r.lp ≤ r.sp
  pub slp : r.slp ≤ 4097
  pub rp : r.rp ≤ 16
  pub mp : r.mp < 2 ^ 32
  pub inp : r.inp < 2 ^ 32
  pub rs : r.rs < 32
  pub steps : r.steps < 2 ^ 32
  pub peak : r.sp ≤ r.peak

-- every reference on the stack is to a place with a header and the word after it
pub record Refs (r : Regs) (st : List ℕ) : Type 0 where
  pub each : (i : ℕ) → i < r.sp → get_or st i 0 / 2 ^ 28 ≡ 1 → get_or st i 0 % 2 ^ 28 + 2 ≤ r.hp

-- an image that none of 1 to 4 turns away
pub record Imaged (m : List ℕ) : Type 0 where
  pub accepted : Accepted (program m)
  pub long : code_at m (program m).size ≡ length m
  pub bytes : Bytes m

not_both : (P : Program) → P.rulesets ≤ 32 → P.handler ≡ 255 → P.handler < P.rulesets → ⊥
not_both P m p q =
    lt_irrefl 255 (lt_of_lt_of_le (subst (λ (h : ℕ). h < P.rulesets) p q) (le_trans m (le-add_right 32 223)))

-- a program of at most 32 rulesets has a handler in one way at most, so an image is accepted in one way
pub Handler-prop : (P : Program) → P.rulesets ≤ 32 → IsProp (Handler P)
Handler-prop P m (absent p) (absent q) = ap absent (ℕ_set _ _ p q)
Handler-prop P m (present p) (present q) = ap present (le_prop p q)
Handler-prop P m (absent p) (present q) = absurd (not_both P m p q)
Handler-prop P m (present p) (absent q) = absurd (not_both P m q p)

-- where each ruleset begins, in the image and in the rule order
pub record Located (m : List ℕ) (starts : List Start) : Type 0 where
  pub long : length starts ≡ 33
  pub places : (k : ℕ) → k < 33 → (start_at starts k).image ≡ ruleset_at m k
  pub order_places : (k : ℕ) → k < 33 → (start_at starts k).order ≡ order_at (program m) k
