-- What holds of every effect that a deed may have, and how that passes through tests and choices.
use mathlib.Core.Bool.{Bool, true, false}
use Prim.Native.Nat.{ℕ}
use lib.Dec.{T, ltb}
use Rattle.limits.specs.Machine.{ends, goes}
use Rattle.hume.specs.Tests.{pick}
use Rattle.hume.specs.Image.{Program}
use Rattle.hume.specs.State.{State, Regs, Effect, Deed, need, at, turns, fails, rule_at, rule_count}

-- Q holds of the cycles and the effect of a deed, if it has one.
abbrev pub Each : (ℕ → Effect → Type 0) → Deed → Type 0
Each Q (ends e) = Unit {0}
Each Q (goes t f) = Q t f

-- Behind a test the test may be used.
pub each_need : (Q : ℕ → Effect → Type 0) (b : Bool) (n : ℕ) (d : Deed) → (T b → Each Q d) → Each Q (need b n d)
unfolding need
each_need Q true n d h = h tt
each_need Q false n d h = tt

-- A choice: each branch with what its test says.
pub each_pick : (Q : ℕ → Effect → Type 0) (b : Bool) (d e : Deed) → (T b → Each Q d) → ((T b → ⊥) → Each Q e)
    → Each Q (pick b d e)
unfolding pick
each_pick Q true d e h k = h tt
each_pick Q false d e h k = k (λ t. t)

-- A choice of anything has what both things have.
pub of_pick : {X : Type 0} (F : X → Type 0) (b : Bool) (x y : X) → F x → F y → F (pick b x y)
unfolding pick
of_pick F true x y h k = h
of_pick F false x y h k = k

-- A failed match goes to a rule that is left, or ends.
pub each_fails : (Q : ℕ → Effect → Type 0) (P : Program) (s : State) (r : Regs)
    → (T (ltb s.regs.rp (rule_count P s)) → Each Q (turns s (at (rule_at P s s.regs.rp) r)))
    → Each Q (fails P s r)
unfolding fails
each_fails Q P s r h = each_pick Q (ltb s.regs.rp (rule_count P s)) _ _ h (λ k. tt)
