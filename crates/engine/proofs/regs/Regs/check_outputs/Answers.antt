use native.Mathlib.Omega.{arith}
use mathlib.Core.Path.{refl, sym, ◌∙◌}
use borrow.Author.Tests.{not-true, not-false}
use Rattle.engine.proofs.Turning.{settled}
use Rattle.engine.proofs.Outputs.{check_few, check_other, check_stuck, check_leads}
use Rattle.engine.proofs.regs.Regs.check_outputs.Goals as goal

pub returns-then-sp-self : goal.returns-then-sp-self
returns-then-sp-self c =
    λ lim P he or e₁ e₂ wn. record { each = λ ws hs h m n. check_few c.requires.fit h _ _ P m _ e₂ _ c.if-sp-self.true c.halt.ensures }

pub returns-then-not-all_values : goal.returns-then-not-all_values
returns-then-not-all_values c =
    λ lim P he or e₁ e₂ wn. record {
      each = λ ws hs h m n.
          check_other c.requires.fit h _ _ P m _ e₂ _ c.if-sp-self.false
          (sym (c.all_values.ensures ws h.stack m h.sp) ∙ not-true _ c.if-not-all_values.true-raw) c.halt-then-not-all_values.ensures;
    }

pub returns-in-Some : goal.returns-in-Some
returns-in-Some c =
    λ lim P he or e₁ e₂ wn. record {
      each = λ ws hs h m n.
          check_stuck c.requires.fit h _ _ P m _ e₂ _ e₁ _ _ c.if-sp-self.false
          (sym (c.all_values.ensures ws h.stack m h.sp) ∙ not-false _ c.if-not-all_values.false-raw)
          (rw c.in-Some.is at c.first_stuck.ensures) c.halt-in-Some.ensures;
    }

pub returns : goal.returns
returns c =
    λ lim P he or e₁ e₂ wn. record {
      each = λ ws hs h m n.
          settled (check_leads c.requires.fit h _ _ P m _ e₂ _ e₁ _ c.if-sp-self.false
          (sym (c.all_values.ensures ws h.stack m h.sp) ∙ not-false _ c.if-not-all_values.false-raw)
          (rw c.in_default.is at c.first_stuck.ensures)) _ (c.charge.ensures _ (omega (arith, wn.stack, c.requires.fit.fp, c.requires.fit.lp)) wn.heap)
          (λ a b. record {
            stack = h.stack;
            heap = h.heap;
            wires = refl;
            order = refl;
          });
    }
