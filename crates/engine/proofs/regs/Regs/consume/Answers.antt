use native.Mathlib.Omega.{arith}
use mathlib.Core.Path.{refl, ◌∙◌, sym}
use Rattle.engine.proofs.Turning.{settle_yes, settle_no}
use Rattle.engine.proofs.Outputs.{cleared, consume_leads}
use Rattle.engine.proofs.regs.Regs.consume.Goals as goal

pub returns-then-goes_on : goal.returns-then-goes_on
returns-then-goes_on c =
    λ lim st he or wn. record {
      each = λ ws hs h m n.
          settle_yes (consume_leads c.requires.fit h _ or _ _) _ _ (c.charge-turn.ensures _ (omega (arith, wn.stack, c.requires.fit.fp, c.requires.fit.lp)) wn.heap) (sym c.goes_on.ensures ∙ c.if-goes_on.true)
          (λ a b. record {
            stack = h.stack;
            heap = h.heap;
            wires = c.clear_wire.ensures ∙ cleared c.args.wires.now c.args.a;
            order = refl;
          });
    }

pub returns-else-goes_on : goal.returns-else-goes_on
returns-else-goes_on c =
    λ lim st he or wn. record {
      each = λ ws hs h m n.
          settle_no (consume_leads c.requires.fit h _ or _ c.args.a) _ (c.charge-turn.ensures _ (omega (arith, wn.stack, c.requires.fit.fp, c.requires.fit.lp)) wn.heap) (sym c.goes_on.ensures ∙ c.if-goes_on.false);
    }
