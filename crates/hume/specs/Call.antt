-- What one call is given, and what it returns and leaves in every buffer, refused or accepted.
use Rattle.std.specs.Prelude.{List, ◌++◌, map, ℕ, zero, suc, ◌-◌, length, replicate}
use Rattle.limits.specs.Machine.{fresh, Limits, Time, Stack, Heap, Ending, own, limit, Outcome, limited}
use Rattle.hume.specs.Words.{Word, bits}
use Rattle.hume.specs.Image.{program}
use Rattle.hume.specs.Refusals.{unless, image_refusal, card_ok, limits_ok, wires_ok, order_ok}
use Rattle.hume.specs.State.{State, sp, hp, End, finished, blocked, fault, no_rule, unhandled}
use Rattle.hume.specs.Machine.{machine, start}

-- "Any image, card, limits and wires may be handed in."
pub record Given : Type 0 where
  pub image : List ℕ
  pub card : List ℕ
  pub limits : Limits
  pub stack : List ℕ
  pub heap : List ℕ
  pub wires : List ℕ
  pub order : List ℕ

-- "Figures: ending, detail, pc, steps charged, time, peak depth (0 at the start), depth, heap."
pub record Figures : Type 0 where
  pub ending : ℕ
  pub detail : ℕ
  pub pc : ℕ
  pub steps : ℕ
  pub time : ℕ
  pub peak : ℕ
  pub depth : ℕ
  pub heap : ℕ

-- the refusal's number, 0 for none; the figures; and what is then in the lent buffers
pub record Answer : Type 0 where
  pub refusal : ℕ
  pub figures : Figures
  pub stack : List ℕ
  pub heap : List ℕ
  pub wires : List ℕ
  pub order : List ℕ

-- "0 finished, 1 blocked (output), 2 fault (number), 3 no rule left after a failed match, 4 exception (number) with no handler, 5
-- time, 6 stack, 7 heap."
unfoldable pub ending_of : Ending End → ℕ
ending_of (own finished) = 0
ending_of (own (blocked i)) = 1
ending_of (own (fault n)) = 2
ending_of (own no_rule) = 3
ending_of (own (unhandled n)) = 4
ending_of (limit Time) = 5
ending_of (limit Stack) = 6
ending_of (limit Heap) = 7

-- "The detail is the bracketed number, else 0."
unfoldable pub detail_of : Ending End → ℕ
detail_of (own finished) = 0
detail_of (own (blocked i)) = i
detail_of (own (fault n)) = n
detail_of (own no_rule) = 0
detail_of (own (unhandled n)) = n
detail_of (limit b) = 0

unfoldable pub figures_of : Outcome State End → Figures
figures_of q =
    record {
      ending = ending_of q.ending;
      detail = detail_of q.ending;
      pc = q.run.state.regs.pc;
      steps = q.run.steps;
      time = q.run.time;
      peak = q.run.peak;
      depth = sp q.run.state;
      heap = hp q.run.state;
    }

-- "every word from sp, or hp, up is 0 at the ending": an area of n words that holds the words ws
unfoldable pub area : ℕ → List Word → List ℕ
area n ws = map bits ws ++ replicate (n - length ws) 0

-- the run of an accepted call
unfoldable pub outcome : Given → Outcome State End
outcome g =
    limited (machine (program g.image) g.card) g.limits
    (fresh (start (program g.image) g.wires g.order))

unfoldable pub ran : Given → Outcome State End → Answer
ran g q =
    record {
      refusal = 0;
      figures = figures_of q;
      stack = area (length g.stack) q.run.state.stack;
      heap = area (length g.heap) q.run.state.heap;
      wires = q.run.state.wires;
      order = q.run.state.order;
    }

abbrev pub no_figures : Figures
no_figures = record { ending = 0; detail = 0; pc = 0; steps = 0; time = 0; peak = 0; depth = 0; heap = 0 }

-- "A call turned away returns the number with all figures 0 and writes to no buffer."
unfoldable pub refused : Given → ℕ → Answer
refused g n =
    record {
      refusal = n;
      figures = no_figures;
      stack = g.stack;
      heap = g.heap;
      wires = g.wires;
      order = g.order;
    }

-- "What is turned away, first that applies": 5 to 8
unfoldable pub lent_refusal : Given → ℕ
lent_refusal g =
    unless (card_ok g.card) 5
    (unless (limits_ok g.limits.stack g.limits.heap (length g.stack) (length g.heap)) 6
    (unless (wires_ok (program g.image) g.wires) 7 (unless (order_ok (program g.image) g.order) 8 0)))

-- the first of two numbers that is not 0
unfoldable pub first_of : ℕ → ℕ → ℕ
first_of zero n = n
first_of (suc m) n = suc m

unfoldable pub refusal : Given → ℕ
refusal g = first_of (image_refusal g.image) (lent_refusal g)

unfoldable pub answer_by : ℕ → Given → Answer
answer_by zero g = ran g (outcome g)
answer_by (suc n) g = refused g (suc n)

unfoldable pub answer : Given → Answer
answer g = answer_by (refusal g) g
