-- What is said of an input: the figures of the run that it asks for, or the number of what turns it away.
use Rattle.std.specs.Prelude.{List, ℕ, Result, Ok, Err}
use Rattle.hume.specs.Sheet.{figures_line, refused_line}
use Rattle.gate.specs.Verdicts.{number_of as refusal_number}
use Rattle.engine.specs.declared.Report.{Report}
use Rattle.engine.specs.Reports.{reported}
use Rattle.sheet.specs.declared.refusals.TurnedAway.{TurnedAway}
use Rattle.sheet.specs.declared.refusals.TurnedAway.TheVariants.{Call, Sheet}

abbrev pub number_of : TurnedAway → ℕ
number_of (Call r) = refusal_number r
number_of Sheet = 9

abbrev pub said : Result Report TurnedAway → List ℕ
said (Ok r) = figures_line (reported r)
said (Err t) = refused_line (number_of t)
