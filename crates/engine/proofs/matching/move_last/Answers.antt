use Rattle.engine.proofs.Trying.{moved_last}
use lib.ListN.{get_or, set}
use Prim.Native.Nat.{◌-◌}
use mathlib.Core.Path.{ap, ◌∙◌}
use Rattle.engine.proofs.matching.move_last.Goals as goal

pub returns : goal.returns
returns c =
    ap (λ x. set x (c.args.j - 1) (get_or c.args.order.now c.args.i 0)) c.copy_within.ensures.after
    ∙ moved_last c.args.order.now c.args.i c.args.j c.requires.0 c.requires.1
