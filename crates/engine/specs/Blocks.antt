-- What the building instructions need and do: objects on the heap, and words that a loop moves.
use Rattle.std.specs.Prelude.{◌≡◌, List, [], ◌∷◌, ℕ, ◌+◌, ◌-◌, ◌/◌, ◌%◌, ◌^◌, ◌≤◌, ◌<◌, length, get_or}
use Rattle.hume.specs.Words.{raw}
use Rattle.hume.specs.State.{State, Deed, builds}
use Rattle.engine.specs.declared.regs.Regs.{Regs}

-- every Tuple, Constr and Exn that the stack refers to has its fields below hp
pub record Blocks (r : Regs) (st he : List ℕ) : Type 0 where
  pub each : (i : ℕ) → i < r.sp → get_or st i 0 / 2 ^ 28 ≡ 1 → 262144 ≤ get_or he (get_or st i 0 % 2 ^ 28) 0
      → get_or st i 0 % 2 ^ 28 + 2 + get_or he (get_or st i 0 % 2 ^ 28 + 1) 0 ≤ r.hp

-- a new object of a header and a payload: MkBool, MkInt and MkFloat
abbrev pub making : ℕ → ℕ → State → Deed
making h c s = builds s 0 s.stack (raw h ∷ raw c ∷ [])

-- The list is the old one but for n words from a place on, which are those of f.
pub record Placed (old new : List ℕ) (at n : ℕ) (f : ℕ → ℕ) : Type 0 where
  pub long : length new ≡ length old
  pub low : (j : ℕ) → j < at → get_or new j 0 ≡ get_or old j 0
  pub put : (i : ℕ) → i < n → get_or new (at + i) 0 ≡ f i
  pub high : (j : ℕ) → at + n ≤ j → get_or new j 0 ≡ get_or old j 0

-- the words of a list from the one below a depth on down
abbrev pub from_top : List ℕ → ℕ → ℕ → ℕ
from_top l sp i = get_or l (sp - (i + 1)) 0

-- the words of a list from a place on
abbrev pub from_place : List ℕ → ℕ → ℕ → ℕ
from_place l p i = get_or l (p + i) 0
