-- What a call returns, as document 01's numbers.
use Rattle.std.specs.Prelude.{List, [], ◌∷◌, ℕ}
use Rattle.hume.specs.Call.{Figures, Answer}
use Rattle.gate.specs.Verdicts.{number}
use Rattle.engine.specs.Turns.{Buffers}
use Rattle.engine.specs.declared.Ending.{Ending}
use Rattle.engine.specs.declared.Ending.TheVariants.{Finished, Blocked, Fault, NoRule, Unhandled, Time, Stack, Heap}
use Rattle.engine.specs.declared.Report.{Report}

-- "0 finished, 1 blocked (output), 2 fault (number), 3 no rule left after a failed match, 4 exception (number) with no handler, 5
-- time, 6 stack, 7 heap."
unfoldable pub ending_number : Ending → ℕ
ending_number Finished = 0
ending_number (Blocked i) = 1
ending_number (Fault n) = 2
ending_number NoRule = 3
ending_number (Unhandled n) = 4
ending_number Time = 5
ending_number Stack = 6
ending_number Heap = 7

-- "The detail is the bracketed number, else 0."
unfoldable pub detail_number : Ending → ℕ
detail_number Finished = 0
detail_number (Blocked i) = i
detail_number (Fault n) = n
detail_number NoRule = 0
detail_number (Unhandled n) = n
detail_number Time = 0
detail_number Stack = 0
detail_number Heap = 0

unfoldable pub reported : Report → Figures
reported r =
    record {
      ending = ending_number r.ending;
      detail = detail_number r.ending;
      pc = r.pc;
      steps = r.steps;
      time = r.time;
      peak = r.peak;
      depth = r.depth;
      heap = r.heap;
    }

-- "ending, detail, pc, steps charged, time, peak depth (0 at the start), depth, heap"
abbrev pub eight : Figures → List ℕ
eight f =
    f.ending ∷ f.detail ∷ f.pc ∷ f.steps ∷ f.time ∷ f.peak ∷ f.depth ∷ f.heap ∷ []

-- the report and what is in the lent buffers, as one answer
unfoldable pub told : Report → Buffers → Answer
told r b =
    record {
      refusal = number r.verdict;
      figures = reported r;
      stack = b.stack;
      heap = b.heap;
      wires = b.wires;
      order = b.order;
    }
