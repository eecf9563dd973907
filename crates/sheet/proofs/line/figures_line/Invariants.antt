use Rattle.std.proofs.Common.{◌≡◌, ◌-◌, ◌*◌, ◌≤◌, length, drop, reverse}
use Rattle.engine.specs.Reports.{eight, reported}
use Rattle.sheet.specs.Lines.{Kept}
use Rattle.sheet.proofs.Lines.{after_last, last_figures}
use Rattle.sheet.proofs.line.figures_line.Given as goal

-- each figure takes 11 places at most
abbrev pub invariant-loop-figure : goal.invariant-loop-figure
invariant-loop-figure l =
    record {
      room : 11 * (8 - length l.yielded) ≤ l.at;
      high : l.at ≤ 88;
      after : l.after ≡ after_last (length l.yielded);
      written : drop l.at l.line ≡ last_figures (reverse (eight (reported l.report))) (length l.yielded);
      sized : length l.line ≡ 88;
      kept : Kept l.initial.line l.line l.at;
    }
