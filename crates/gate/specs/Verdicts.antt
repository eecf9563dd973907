-- Document 01's numbers for what turns a call away, and a call's lent parts as one.
use Rattle.std.specs.Prelude.{List, ℕ, ⊤, Result, Ok, Err}
use Rattle.hume.specs.Call.{Given}
use Rattle.gate.specs.declared.refusals.Refusal.{Refusal}
use Rattle.gate.specs.declared.refusals.Refusal.TheVariants.{Length, Version, Counts, Code, Card, Limits, Wires, Order}

abbrev pub number_of : Refusal → ℕ
number_of Length = 1
number_of Version = 2
number_of Counts = 3
number_of Code = 4
number_of Card = 5
number_of Limits = 6
number_of Wires = 7
number_of Order = 8

-- a verdict's number, 0 for none
abbrev pub number : Result ⊤ Refusal → ℕ
number (Ok _) = 0
number (Err r) = number_of r

abbrev pub given : List ℕ → List ℕ → ℕ → ℕ → ℕ → List ℕ → List ℕ → List ℕ → List ℕ → Given
given image card time s h stack heap wires order =
    record {
      image = image;
      card = card;
      limits = record { time = time; stack = s; heap = h };
      stack = stack;
      heap = heap;
      wires = wires;
      order = order;
    }
