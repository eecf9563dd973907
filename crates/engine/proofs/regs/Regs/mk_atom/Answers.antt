use native.Mathlib.Omega.{arith}
use Rattle.engine.proofs.Turning.{turned_as}
use Rattle.engine.proofs.Yielding.{made_on_top}
use Rattle.engine.proofs.regs.Regs.mk_atom.Goals as goal

pub returns : goal.returns
returns c =
    λ wi or.
    record { each = λ ws hs h m n. turned_as _ _ (made_on_top h wi or _ _) ((c.give.ensures _ 0 wi or (omega arith)).each ws hs h m n) }
