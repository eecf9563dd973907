use mathlib.Core.Path.{refl, sym, ◌∙◌, ap}
use native.Mathlib.Omega.{arith}
use Rattle.engine.specs.Copies.{taken}
use Rattle.engine.proofs.Turning.{settle_yes, settle_no}
use Rattle.engine.proofs.Areas.{bears_without}
use Rattle.engine.proofs.Writing.{own_offered, top_offered, roomy, put_none, room_taken, room_back, still, write_few, write_stops, write_leads}
use Rattle.engine.proofs.regs.Regs.write.Goals as goal

pub returns-then-sp-self : goal.returns-then-sp-self
returns-then-sp-self c =
    λ lim P or p wn. record { each = λ ws hs h m n. write_few c.requires.fit h _ or P _ _ c.if-sp-self.true c.halt.ensures }

pub room_for-requires-clause-offered : goal.room_for-requires-clause-offered
room_for-requires-clause-offered c =
    top_offered c.requires.top_held c.if-sp-self.false (c.shared_slice_known-3-1.given _).fits

pub returns-in-Err : goal.returns-in-Err
returns-in-Err c =
    λ lim P or p wn. record {
      each = λ ws hs h m n.
          let k = own_offered h n m c.requires.top_held c.if-sp-self.false in
          still (c.room_for.ensures.wires_after k ∙ put_none _ _ (ap taken c.in-Err.is))
          (write_stops c.requires.fit h _ or P _ c.if-sp-self.false _ p (c.room_for.ensures.value k) _ c.in-Err.is c.halt-in-Err.ensures);
    }

pub overflow_cast-wires : goal.overflow_cast-wires
overflow_cast-wires c =
    let y = roomy (c.room_for.ensures.value (top_offered c.requires.top_held c.if-sp-self.false (c.shared_slice_known-3-1.given _).fits)) c.in-Ok.is c.if-n-ne0.true in
    omega (arith, y.few, y.long)

pub returns-then-n-ne0 : goal.returns-then-n-ne0
returns-then-n-ne0 c =
    λ lim P or p wn. record {
      each = λ ws hs h m n.
          let k = own_offered h n m c.requires.top_held c.if-sp-self.false in
          let y = roomy (c.room_for.ensures.value k) c.in-Ok.is c.if-n-ne0.true in
          settle_yes (write_leads c.requires.fit h _ or P _ c.if-sp-self.false _ p (c.room_for.ensures.value k) _ c.in-Ok.is) _ _ (c.charge-turn.ensures _ (omega (arith, wn.stack, c.requires.fit.fp, c.requires.fit.lp)) wn.heap) (sym c.goes_on.ensures ∙ c.if-goes_on.true)
          (λ a b. record {
            stack = bears_without _ _ _ h.stack;
            heap = h.heap;
            wires = room_taken c.requires.wire_fits y c.if-n-ne0.true (rw c.in-Ok.is at (c.room_for.ensures.wires_after k));
            order = refl;
          });
    }

pub returns-else-n-ne0 : goal.returns-else-n-ne0
returns-else-n-ne0 c =
    λ lim P or p wn. record {
      each = λ ws hs h m n.
          let k = own_offered h n m c.requires.top_held c.if-sp-self.false in
          settle_yes (write_leads c.requires.fit h _ or P _ c.if-sp-self.false _ p (c.room_for.ensures.value k) _ c.in-Ok.is) _ _ (c.charge-turn.ensures _ (omega (arith, wn.stack, c.requires.fit.fp, c.requires.fit.lp)) wn.heap) (sym c.goes_on.ensures ∙ c.if-goes_on.true)
          (λ a b. record {
            stack = bears_without _ _ _ h.stack;
            heap = h.heap;
            wires = rw c.in-Ok.is at (c.room_for.ensures.wires_after k) ∙ put_none _ _ c.if-n-ne0.false ∙ sym (put_none _ _ c.if-n-ne0.false);
            order = refl;
          });
    }

pub returns-then-n-ne0-2 : goal.returns-then-n-ne0-2
returns-then-n-ne0-2 c =
    λ lim P or p wn. record {
      each = λ ws hs h m n.
          let k = own_offered h n m c.requires.top_held c.if-sp-self.false in
          let y = roomy (c.room_for.ensures.value k) c.in-Ok.is c.if-n-ne0-2.true in
          still (c.clear_wire.ensures ∙ room_back c.requires.wire_fits y c.if-n-ne0-2.true (rw c.in-Ok.is at (c.room_for.ensures.wires_after k)))
          (settle_no (write_leads c.requires.fit h _ or P _ c.if-sp-self.false _ p (c.room_for.ensures.value k) _ c.in-Ok.is) _ (c.charge-turn.ensures _ (omega (arith, wn.stack, c.requires.fit.fp, c.requires.fit.lp)) wn.heap) (sym c.goes_on.ensures ∙ c.if-goes_on.false));
    }

pub returns-else-n-ne0-2 : goal.returns-else-n-ne0-2
returns-else-n-ne0-2 c =
    λ lim P or p wn. record {
      each = λ ws hs h m n.
          let k = own_offered h n m c.requires.top_held c.if-sp-self.false in
          still (rw c.in-Ok.is at (c.room_for.ensures.wires_after k) ∙ put_none _ _ c.if-n-ne0-2.false)
          (settle_no (write_leads c.requires.fit h _ or P _ c.if-sp-self.false _ p (c.room_for.ensures.value k) _ c.in-Ok.is) _ (c.charge-turn.ensures _ (omega (arith, wn.stack, c.requires.fit.fp, c.requires.fit.lp)) wn.heap) (sym c.goes_on.ensures ∙ c.if-goes_on.false));
    }
