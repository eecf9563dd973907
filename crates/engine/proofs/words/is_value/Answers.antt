use mathlib.Core.Path.{sym, ◌∙◌}
use borrow.Author.Tests.{eq-eqb}
use Rattle.engine.proofs.WordKinds.{value_ref, value_else}
use Rattle.engine.proofs.words.is_value.Goals as goal

pub returns-then-w-eq1 : goal.returns-then-w-eq1
returns-then-w-eq1 c = λ v e s. eq-eqb _ _ c.if-w-eq1.true ∙ sym (value_ref e s c.if-w-eq1.true)

pub returns-else-w-eq1 : goal.returns-else-w-eq1
returns-else-w-eq1 c = λ v e s. sym (value_else e s c.if-w-eq1.false)
