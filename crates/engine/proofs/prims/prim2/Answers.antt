use Rattle.engine.proofs.Yielding.{unlike}
use Rattle.engine.proofs.prims.prim2.Goals as goal

pub returns-then-h0-h1 : goal.returns-then-h0-h1
returns-then-h0-h1 c = unlike _ _ _ _ _ c.if-h0-h1.true
