use mathlib.Core.Path.{sym}
use Rattle.engine.proofs.Turning.{turned_as}
use Rattle.engine.proofs.Moving.{mk_none_is}
use Rattle.engine.proofs.WordKinds.{bits_none}
use Rattle.hume.specs.Words.{none}
use Rattle.engine.proofs.regs.Regs.mk_none.Goals as goal

pub returns : goal.returns
returns c =
    λ hl he wi or wn. record { each = λ ws hs h m n. turned_as _ _ (mk_none_is c.requires.fit h wi or) ((c.push.ensures _ none he wi or (sym bits_none) wn).each ws hs h m n) }
