-- The report of a run that is over, with both areas wiped above their words, is the answer to the call.
use mathlib.Core.Path.{◌≡◌, refl, sym, ap, ◌∙◌}
use mathlib.Core.List.{List, ◌++◌}
use Prim.Native.Nat.{ℕ, ◌-◌}
use lib.ListN.{length, take, replicate}
use Rattle.limits.specs.Machine.{Ending as Halt, own, limit}
use Rattle.limits.specs.Machine.{Time as Time', Stack as Stack', Heap as Heap'}
use Rattle.hume.specs.State.{End, finished, blocked, fault, no_rule, unhandled}
use Rattle.hume.specs.Call.{Given, Answer, ending_of, detail_of, figures_of, area, outcome, ran, refused}
use Rattle.std.specs.Prelude.{Err}
use Rattle.gate.specs.Verdicts.{number}
use Rattle.gate.specs.declared.refusals.Refusal.{Refusal}
use Rattle.engine.specs.Turns.{Buffers, buffers}
use Rattle.engine.specs.Running.{run_of, halt_of, Over}
use Rattle.engine.specs.Reports.{ending_number, detail_number, reported, told}
use Rattle.engine.specs.Endings.{refusal, ending}
use Rattle.engine.specs.declared.Ending.{Ending}
use Rattle.engine.specs.declared.regs.Regs.{Regs}
use Rattle.engine.proofs.Wiping.{wiped_area}

-- the code's endings have the paper's numbers
ending_number_lem : (h : Halt End) → ending_number (halt_of h) ≡ ending_of h
unfolding ending_number ending_of
ending_number_lem (own finished) = refl
ending_number_lem (own (blocked i)) = refl
ending_number_lem (own (fault n)) = refl
ending_number_lem (own no_rule) = refl
ending_number_lem (own (unhandled n)) = refl
ending_number_lem (limit Time') = refl
ending_number_lem (limit Stack') = refl
ending_number_lem (limit Heap') = refl

detail_number_lem : (h : Halt End) → detail_number (halt_of h) ≡ detail_of h
unfolding detail_number detail_of
detail_number_lem (own finished) = refl
detail_number_lem (own (blocked i)) = refl
detail_number_lem (own (fault n)) = refl
detail_number_lem (own no_rule) = refl
detail_number_lem (own (unhandled n)) = refl
detail_number_lem (limit Time') = refl
detail_number_lem (limit Stack') = refl
detail_number_lem (limit Heap') = refl

-- zeros from n up
abbrev pub Wiped : List ℕ → ℕ → List ℕ → Type 0
Wiped l n l' = l' ≡ take n l ++ replicate (length l - n) 0

pub told_over : (g : Given) (r : Regs) (e : Ending) (b : Buffers) (st he : List ℕ) → Over g r e b
    → length b.stack ≡ length g.stack → length b.heap ≡ length g.heap → Wiped b.stack r.sp st
    → Wiped b.heap r.hp he
    → told (ending e r g.limits.time) (buffers st he b.wires b.order) ≡ ran g (outcome g)
unfolding told reported ran figures_of
told_over g r e b st he o ls lh ws wh =
    let n : ending_number e ≡ ending_of o.ending = ap ending_number o.is ∙ ending_number_lem o.ending in
    let d : detail_number e ≡ detail_of o.ending = ap detail_number o.is ∙ detail_number_lem o.ending in
    let s : st ≡ area (length g.stack) o.ws =
    wiped_area b.stack st o.ws r.sp o.holds.stack o.holds.sp ws
    ∙ ap (λ (k : ℕ). area k o.ws) ls in
    let h : he ≡ area (length g.heap) o.hs =
    wiped_area b.heap he o.hs r.hp o.holds.heap o.holds.hp wh
    ∙ ap (λ (k : ℕ). area k o.hs) lh in
    let here : Answer =
    ran g
    (record { ending = o.ending; run = run_of g.limits.time r o.ws o.hs b.wires b.order o.done }) in
    let same : told (ending e r g.limits.time) (buffers st he b.wires b.order) ≡ here =
    λ i.
    record {
      refusal = 0;
      figures =
          record {
            ending = n i;
            detail = d i;
            pc = r.pc;
            steps = r.steps;
            time = g.limits.time - r.left;
            peak = r.peak;
            depth = o.holds.sp i;
            heap = o.holds.hp i;
          };
      stack = s i;
      heap = h i;
      wires = b.wires;
      order = b.order;
    } in
    same ∙ ap (ran g) (sym o.same)

-- a call that is turned away
pub told_refused : (g : Given) (r : Refusal) (n : ℕ) → number (Err r) ≡ n
    → told (refusal r) (buffers g.stack g.heap g.wires g.order) ≡ refused g n
unfolding told reported refused ending_number detail_number
told_refused g r n e = rw e
