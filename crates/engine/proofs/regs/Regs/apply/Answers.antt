use mathlib.Core.Path.{◌≡◌, ap}
use Prim.Native.Nat.{ℕ, ◌+◌}
use Rattle.engine.specs.Outcomes.{operands}
use Rattle.engine.specs.declared.prims.Trouble.TheVariants.{Fault, Raises}
use Rattle.engine.proofs.Yielding.{deal_result, deal_trouble, deals_meet, fault_meets}
use Rattle.engine.proofs.regs.Regs.apply.Goals as goal

pub returns-in-Ok : goal.returns-in-Ok
returns-in-Ok c =
    let o = c.try_any-tried.ensures in
    let time = λ (n : ℕ). c.args.cost + n in
    record {
      prim1 = λ P wi or d e.
          deals_meet P _ wi or (o.one e) (deal_result P _ _ _ c.in-Ok.is c.operands.ensures (ap operands e))
          (c.give.ensures _ _ wi or (ap time (c.cycles.ensures.one e)));
      prim2 = λ P wi or d e.
          deals_meet P _ wi or (o.two e) (deal_result P _ _ _ c.in-Ok.is c.operands.ensures (ap operands e))
          (c.give.ensures _ _ wi or (ap time (c.cycles.ensures.two e)));
      raise = λ P wi or d e.
          deals_meet P _ wi or (o.three e) (deal_result P _ _ _ c.in-Ok.is c.operands.ensures (ap operands e))
          (c.give.ensures _ _ wi or (ap time (c.cycles.ensures.three e)));
    }

pub returns-in-Err-Fault : goal.returns-in-Err-Fault
returns-in-Err-Fault c =
    let o = c.try_any-tried.ensures in
    let w : c.in-Err-Fault.field-0 ≡ Fault c.in-Err-Fault.n = rw c.in-Err-Fault.is at c.in-Err-Fault.field-0-is in
    record {
      prim1 = λ P wi or d e. deals_meet P _ wi or (o.one e) (deal_trouble P _ _ c.in-Err-Fault.is w) (fault_meets _ _ c.halt.ensures);
      prim2 = λ P wi or d e. deals_meet P _ wi or (o.two e) (deal_trouble P _ _ c.in-Err-Fault.is w) (fault_meets _ _ c.halt.ensures);
      raise = λ P wi or d e. deals_meet P _ wi or (o.three e) (deal_trouble P _ _ c.in-Err-Fault.is w) (fault_meets _ _ c.halt.ensures);
    }

pub returns-in-Err-Raises : goal.returns-in-Err-Raises
returns-in-Err-Raises c =
    let o = c.try_any-tried.ensures in
    let w : c.in-Err-Raises.field-0 ≡ Raises c.in-Err-Raises.exception c.in-Err-Raises.field = rw c.in-Err-Raises.is at c.in-Err-Raises.field-0-is in
    let time = λ (n : ℕ). c.args.cost + n in
    record {
      prim1 = λ P wi or d e.
          deals_meet P _ wi or (o.one e) (deal_trouble P _ _ c.in-Err-Raises.is w)
          (c.raise.ensures P _ _ wi or d (ap time (c.cycles.ensures.one e)));
      prim2 = λ P wi or d e.
          deals_meet P _ wi or (o.two e) (deal_trouble P _ _ c.in-Err-Raises.is w)
          (c.raise.ensures P _ _ wi or d (ap time (c.cycles.ensures.two e)));
      raise = λ P wi or d e.
          deals_meet P _ wi or (o.three e) (deal_trouble P _ _ c.in-Err-Raises.is w)
          (c.raise.ensures P _ _ wi or d (ap time (c.cycles.ensures.three e)));
    }
