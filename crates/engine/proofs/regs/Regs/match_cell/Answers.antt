use Rattle.engine.proofs.Trying.{attempt_faults, attempt_goes}
use Rattle.engine.proofs.regs.Regs.match_cell.Goals as goal

pub returns-in-Ok : goal.returns-in-Ok
returns-in-Ok c = λ lim wi wn. attempt_goes _ (c.compare.ensures _ _ _) _ c.in-Ok.is (c.conclude.ensures _ _ _ _ wn)

pub returns-in-Err : goal.returns-in-Err
returns-in-Err c = λ lim wi wn. attempt_faults _ (c.compare.ensures _ _ _) _ c.in-Err.is c.halt.ensures
