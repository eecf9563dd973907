-- The limits on depth and heap, and what is said of the registers by them. The time that is left is a register.
use Rattle.std.specs.Prelude.{◌≡◌, Option, Some, None, ℕ, ◌≤◌}
use Rattle.engine.specs.declared.regs.Regs.{Regs}

pub record Limits : Type 0 where
  pub stack : ℕ
  pub heap : ℕ

-- those of areas of these lengths
abbrev pub up_to : ℕ → ℕ → Limits
up_to st he = record { stack = st; heap = he }

-- the registers are within them
pub record Within (lim : Limits) (r : Regs) : Type 0 where
  pub stack : r.sp ≤ lim.stack
  pub heap : r.hp ≤ lim.heap

-- l is the limit that is given, or n is known to be within it where none is
abbrev pub Limited : Option ℕ → ℕ → ℕ → Type 0
Limited (Some most) n l = l ≡ most
Limited None n l = n ≤ l
