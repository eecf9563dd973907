-- The measure: twice the words that are left, and one more for a list of fields, whose first cell is at its own place.
use Rattle.std.proofs.Common.{ℕ, ◌+◌, ◌-◌, ◌*◌, ◌≤◌, length, Option}
use Rattle.gate.specs.Cells.{FieldsEnd}
use Rattle.gate.proofs.wires.+cell_end_fields_end.Given as goal

abbrev pub decreases-cell_end : goal.decreases-cell_end
decreases-cell_end l = 2 * (length l.s.now - l.i)

abbrev pub decreases-fields_end : goal.decreases-fields_end
decreases-fields_end l = 2 * (length l.s.now - l.i) + 1

-- The cells that are still to come end where all of them do.
abbrev pub invariant-fields_end-loop : goal.invariant-fields_end-loop
invariant-fields_end-loop l =
    record {
      on : l.i ≤ l.end;
      within : l.end ≤ length l.s;
      rest : (e : Option ℕ) → FieldsEnd l.s l.end (l.n - l.counter) e → FieldsEnd l.s l.i l.n e;
    }

abbrev pub decreases-fields_end-loop : goal.decreases-fields_end-loop
decreases-fields_end-loop l = l.n - l.counter
