use Rattle.engine.proofs.Steering.{locals_none, locals_read}
use Rattle.engine.proofs.control.locals_end.Goals as goal

pub returns-then-fp-eq0 : goal.returns-then-fp-eq0
returns-then-fp-eq0 c = λ ws b k. locals_none _ _ c.if-fp-eq0.true ws b k

pub returns : goal.returns
returns c = λ ws b k. locals_read _ _ c.if-fp-eq0.false ws b k
