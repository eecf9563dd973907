use mathlib.Core.Path.{refl}
use native.Mathlib.Omega.{arith}
use Rattle.engine.proofs.Turning.{turned_as, reads_below}
use Rattle.engine.proofs.Moving.{copy_few, copy_is}
use Rattle.engine.proofs.regs.Regs.copy.Goals as goal

pub returns-then-sp-self : goal.returns-then-sp-self
returns-then-sp-self c =
    λ hl he wi or wn. record { each = λ ws hs h m n. copy_few c.requires.fit h _ _ _ _ c.if-sp-self.true c.halt.ensures }

pub returns : goal.returns
returns c =
    λ hl he wi or wn. record { each = λ ws hs h m n. turned_as _ _ (copy_is c.requires.fit h wi or _ c.if-sp-self.false) ((c.push.ensures _ _ he wi or (reads_below h _ _ (omega (arith, c.if-sp-self.false)) refl) wn).each ws hs h m n) }
