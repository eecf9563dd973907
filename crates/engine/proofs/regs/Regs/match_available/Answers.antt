use Rattle.engine.proofs.Trying.{attempt_faults, attempt_goes}
use mathlib.Core.Path.{sym}
use Rattle.engine.proofs.regs.Regs.match_available.Goals as goal

pub returns-in-Ok : goal.returns-in-Ok
returns-in-Ok c =
    λ lim st he wn. attempt_goes _ (c.available.ensures _ _ _ _ (sym c.args.code.now.wires_in)) _ c.in-Ok.is (c.conclude.ensures _ _ _ _ wn)

pub returns-in-Err : goal.returns-in-Err
returns-in-Err c =
    λ lim st he wn. attempt_faults _ (c.available.ensures _ _ _ _ (sym c.args.code.now.wires_in)) _ c.in-Err.is c.halt.ensures
