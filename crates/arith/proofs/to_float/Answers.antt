use mathlib.Core.Path.{ap, ◌∙◌}
use lib.IntN.{nat_abs}
use Rattle.arith.proofs.Ints.{read}
use Rattle.arith.proofs.Rounding.{to_float_low, to_float_high}
use Rattle.arith.proofs.to_float.Goals as goal

pub returns-then-a-lt-SIGN : goal.returns-then-a-lt-SIGN
returns-then-a-lt-SIGN c =
    let m = c.unsigned_abs.ensures.value ∙ ap nat_abs (read _ _ c.ranges.a.fits c.cast_signed.ensures) in
    to_float_low _ _ _ c.ranges.a.fits m c.nearest-n.ensures c.if-a-lt-SIGN.true

pub returns-else-a-lt-SIGN : goal.returns-else-a-lt-SIGN
returns-else-a-lt-SIGN c =
    let m = c.unsigned_abs.ensures.value ∙ ap nat_abs (read _ _ c.ranges.a.fits c.cast_signed.ensures) in
    to_float_high _ _ _ c.ranges.a.fits m c.nearest-n.ensures c.if-a-lt-SIGN.false
