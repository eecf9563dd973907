-- Laws of what an instruction does.
use mathlib.Core.Path.{◌≡◌, refl}
use mathlib.Core.Bool.{Bool, true, false}
use Prim.Native.Nat.{ℕ}
use lib.Dec.{T}
use Rattle.limits.specs.Machine.{ends}
use Rattle.hume.specs.State.{Deed, fault, need}

-- what an instruction needs is there, or it is a fault
pub need_yes : (b : Bool) (n : ℕ) (d : Deed) → T b → need b n d ≡ d
unfolding need
need_yes true n d t = refl
need_yes false n d t = absurd t

pub need_no : (b : Bool) (n : ℕ) (d : Deed) → (T b → ⊥) → need b n d ≡ ends (fault n)
unfolding need
need_no true n d f = absurd (f tt)
need_no false n d f = refl
