use mathlib.Core.Path.{◌∙◌}
use native.Mathlib.Omega.{arith}
use Rattle.engine.proofs.Laying.{moved_all, moved_there}
use Rattle.engine.proofs.placing.move_down.Goals as goal

pub returns-then-to-from : goal.returns-then-to-from
returns-then-to-from c =
    c.copy_within.ensures.after ∙ moved_all _ _ _ _ _ c.requires.to_le_from c.requires.n_in_bounds (omega arith)

pub returns-else-to-from : goal.returns-else-to-from
returns-else-to-from c = moved_there _ _ _ _ c.if-to-from.false c.requires.n_in_bounds
