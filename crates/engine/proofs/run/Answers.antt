use Rattle.engine.proofs.Opening.{turned_away}
use Rattle.engine.proofs.run.Goals as goal

pub returns-in-Err : goal.returns-in-Err
returns-in-Err c = turned_away _ _ _ _ _ _ _ _ _ _ _ c.in-Err.ensures c.refuse.ensures
