-- The call that the sheet asks for, and what is told of it.
use mathlib.Core.Path.{◌≡◌, ap, ◌∙◌}
use mathlib.Core.List.{List, ◌++◌}
use Prim.Native.Nat.{ℕ, ◌*◌}
use lib.ListN.{replicate}
use Rattle.hume.specs.Image.{program}
use Rattle.hume.specs.Call.{Given, Answer, answer}
use Rattle.hume.specs.Sheet.{sheet_word, sheet_words, first_order, sheet_given}
use Rattle.gate.specs.Verdicts.{number, given}
use Rattle.engine.specs.declared.Report.{Report}
use Rattle.engine.specs.Reports.{reported, told}
use Rattle.engine.specs.Turns.{Buffers}

-- the buffers as they are filled are the call that the sheet asks for
pub sheet_given_lem : (image sheet card wires order : List ℕ) (t s h : ℕ)
    → card ≡ sheet_words sheet 5 40
    → wires ≡ sheet_words sheet 45 (65 * (program image).inputs) ++ replicate (65 * (program image).outputs) 0
    → order ≡ first_order (program image) (program image).rulesets
    → t ≡ sheet_word sheet 2
    → s ≡ sheet_word sheet 3
    → h ≡ sheet_word sheet 4
    → given image card t s h (replicate 4096 0) (replicate 16384 0) wires order ≡ sheet_given image sheet
unfolding sheet_given
sheet_given_lem image sheet card wires order t s h ec ew er et es eh =
    λ j. given image (ec j) (et j) (es j) (eh j) (replicate 4096 0) (replicate 16384 0) (ew j) (er j)

-- what is told of a call, as the answer to the same call
module _ (r : Report) (b : Buffers) {g h : Given} (e : g ≡ h) (t : told r b ≡ answer g) where
  pub told_refusal : number r.verdict ≡ (answer h).refusal
  unfolding told
  told_refusal = ap (λ (a : Answer). a.refusal) (t ∙ ap answer e)

  pub told_figures : reported r ≡ (answer h).figures
  unfolding told
  told_figures = ap (λ (a : Answer). a.figures) (t ∙ ap answer e)
