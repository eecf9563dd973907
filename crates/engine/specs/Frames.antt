-- The frame that a Return leaves, as the code reads it.
use Rattle.std.specs.Prelude.{Bool, ◌&&◌, List, ℕ, ◌+◌, ◌-◌, ◌/◌, ◌%◌, ◌^◌, ◌≤◌, ◌<◌, leb, eqb, get_or}
use Rattle.engine.specs.declared.regs.Regs.{Regs}

-- the frame that a frame's link goes back to is under its four saved words
pub record Framed (r : Regs) (st : List ℕ) : Type 0 where
  pub back : 0 < r.fp → get_or st (r.fp - 1) 0 % 2 ^ 28 / 256 + 4 ≤ r.fp

-- the four words below fp are a return address, a ruleset word, a static link and a frame link
unfoldable pub framed : List ℕ → ℕ → Bool
framed st fp =
    leb 4 fp
    && (eqb (get_or st (fp - 4) 0 / 2 ^ 28) 3
    && (eqb (get_or st (fp - 3) 0 / 2 ^ 28) 4
    && (eqb (get_or st (fp - 2) 0 / 2 ^ 28) 5 && eqb (get_or st (fp - 1) 0 / 2 ^ 28) 6)))
