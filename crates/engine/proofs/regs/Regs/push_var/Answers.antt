use mathlib.Core.Path.{refl}
use native.Mathlib.Omega.{arith}
use Rattle.engine.proofs.Turning.{turned_as}
use Rattle.engine.proofs.Moving.{reads_at, push_var_none, push_var_is}
use Rattle.engine.proofs.regs.Regs.push_var.Goals as goal

pub returns-then-self-fp : goal.returns-then-self-fp
returns-then-self-fp c =
    λ hl he wi or wn. record { each = λ ws hs h m n. push_var_none c.requires.fit h wi or _ _ c.if-self-fp.true c.halt.ensures }

pub returns : goal.returns
returns c =
    λ hl he wi or wn. record { each = λ ws hs h m n. turned_as _ _ (push_var_is c.requires.fit h wi or _ c.if-self-fp.false) ((c.push.ensures _ _ he wi or (reads_at c.requires.fit h wi or _ _ (omega (arith, c.if-self-fp.false, c.requires.fit.lp)) refl) wn).each ws hs h m n) }
