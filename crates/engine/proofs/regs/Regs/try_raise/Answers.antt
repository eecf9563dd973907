use mathlib.Core.Path.{refl, sym, ◌∙◌}
use native.Mathlib.Omega.{arith}
use borrow.Author.Tests.{not-true, not-false}
use Rattle.engine.proofs.Turning.{reads_below}
use Rattle.engine.proofs.Building.{small_below}
use Rattle.engine.proofs.Yielding.{raise_few, raise_wrong, raise_is}
use Rattle.engine.proofs.regs.Regs.try_raise.Goals as goal

pub returns-then-sp-self-clause-by_index : goal.returns-then-sp-self-clause-by_index
returns-then-sp-self-clause-by_index c =
    λ he. record { each = λ P ws hs wi or h m n. raise_few h wi or P _ c.if-sp-self.true }

pub returns-then-not-is_value-clause-by_index : goal.returns-then-not-is_value-clause-by_index
returns-then-not-is_value-clause-by_index c =
    λ he.
    record {
      each = λ P ws hs wi or h m n.
          raise_wrong h wi or P _ c.if-sp-self.false
          (sym (c.is_value.ensures _ (reads_below h 0 _ (omega (arith, c.if-sp-self.false)) refl) (small_below 0 m))
          ∙ not-true _ c.if-not-is_value.true-raw);
    }

pub returns-clause-by_index : goal.returns-clause-by_index
returns-clause-by_index c =
    λ he.
    record {
      each = λ P ws hs wi or h m n.
          raise_is h wi or P _ _ c.if-sp-self.false
          (sym (c.is_value.ensures _ (reads_below h 0 _ (omega (arith, c.if-sp-self.false)) refl) (small_below 0 m))
          ∙ not-false _ c.if-not-is_value.false-raw) (reads_below h 0 _ (omega (arith, c.if-sp-self.false)) refl) (small_below 0 m);
    }
