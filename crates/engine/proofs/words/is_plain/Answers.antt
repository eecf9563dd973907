use mathlib.Core.Path.{sym, ◌∙◌}
use borrow.Author.Tests.{eq-eqb}
use Rattle.engine.proofs.WordKinds.{plain_null, plain_else}
use Rattle.engine.proofs.words.is_plain.Goals as goal

pub returns-then-w-eq0 : goal.returns-then-w-eq0
returns-then-w-eq0 c = λ v e s. eq-eqb _ _ c.if-w-eq0.true ∙ sym (plain_null e s c.if-w-eq0.true)

pub returns-else-w-eq0 : goal.returns-else-w-eq0
returns-else-w-eq0 c = λ v e s. c.is_value.ensures v e s ∙ sym (plain_else e s c.if-w-eq0.false)
