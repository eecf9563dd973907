use Rattle.std.proofs.Common.{◌∙◌}
use Rattle.host.proofs.Writing.{refusal_told, stack_told, heap_told, wires_told, order_told, recorded_told}
use Rattle.host.proofs.ham_run.Goals as goal

pub returns : goal.returns
returns c =
    let e = c.run-report.ensures in
    record {
      value = c.number_of.ensures ∙ refusal_told _ _ _ e;
      stack_after = stack_told _ _ _ e;
      heap_after = heap_told _ _ _ e;
      wires_after = wires_told _ _ _ e;
      order_after = order_told _ _ _ e;
      figures_after = c.tell.ensures ∙ recorded_told _ _ _ e _;
    }
