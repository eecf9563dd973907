use Rattle.std.proofs.Common.{◌≡◌, ◌-◌, ◌≤◌, drop}
use Rattle.hume.specs.Sheet.{digits, decimal}
use Rattle.sheet.specs.Lines.{Kept}
use Rattle.sheet.proofs.line.put_decimal.Given as goal

-- the digits that are left go in front of those that are there
abbrev pub invariant-loop-at : goal.invariant-loop-at
invariant-loop-at l =
    record {
      low : l.at-start ≤ l.at;
      left : digits (l.at - l.at-start) l.rest (drop l.at l.line) ≡ decimal l.n (drop l.end l.initial.line);
      kept : Kept l.initial.line l.line l.at;
    }
