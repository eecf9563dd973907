-- A call that is under way in the code: which call it is, and that its run stands here.
use Rattle.std.specs.Prelude.{List, ℕ, length}
use Rattle.limits.specs.Machine.{Limits as Bound}
use Rattle.hume.specs.Call.{Given}
use Rattle.reach.specs.Demands.{Allowed, Typed}
use Rattle.engine.specs.Turns.{Buffers}
use Rattle.engine.specs.Running.{Bounds, Going}
use Rattle.engine.specs.Limits.{up_to}
use Rattle.engine.specs.declared.regs.Regs.{Regs}

-- a call of this image and card, with the buffers as they were lent
abbrev pub calls : List ℕ → List ℕ → Bound → Buffers → Given
calls m card L b =
    record {
      image = m;
      card = card;
      limits = L;
      stack = b.stack;
      heap = b.heap;
      wires = b.wires;
      order = b.order;
    }

pub record Underway (m card : List ℕ) (r : Regs) (b : Buffers) : Type 0 where
  pub limits : Bound
  pub lent : Buffers
  pub allowed : Allowed (calls m card limits lent)
  pub typed : Typed (calls m card limits lent)
  pub bounds : Bounds (calls m card limits lent) (up_to (length b.stack) (length b.heap))
  pub going : Going (calls m card limits lent) r b
