use native.Mathlib.Omega.{arith}
use Rattle.engine.proofs.Steering.{schedule_turned}
use Rattle.engine.proofs.regs.Regs.schedule.Goals as goal

pub returns : goal.returns
returns c =
    λ lim st he wi or wn. record { each = λ ws hs h m n. rw c.unwrap_or-ending.ensures (schedule_turned c.requires h wi or _ (c.charge-turn.ensures _ (omega (arith, wn.stack, c.requires.fp, c.requires.lp)) wn.heap)) }
