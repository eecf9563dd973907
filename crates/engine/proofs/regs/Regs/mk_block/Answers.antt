use Rattle.engine.specs.Limits.{up_to}
use mathlib.Core.Path.{refl, sym, ◌∙◌}
use native.Mathlib.Omega.{arith}
use borrow.Author.Tests.{not-true, not-false}
use lib.ListN.{length-set}
use Rattle.engine.proofs.Turning.{settle_yes, settle_no, went_on}
use Rattle.engine.proofs.Areas.{bears_push, bears_without}
use Rattle.engine.proofs.Building.{block_few, block_wrong, block_leads, bears_block, bits_ref, without_sp}
use Rattle.engine.proofs.regs.Regs.mk_block.Goals as goal

pub returns-then-sp-self : goal.returns-then-sp-self
returns-then-sp-self c =
    λ wi or. record { each = λ ws hs h m n. block_few c.requires.fit h _ _ _ _ _ c.if-sp-self.true c.halt.ensures }

pub returns-then-not-all_values : goal.returns-then-not-all_values
returns-then-not-all_values c =
    λ wi or.
    record {
      each = λ ws hs h m n.
          block_wrong c.requires.fit h _ _ _ _ _ c.if-sp-self.false
          (sym (c.all_values.ensures ws h.stack m h.sp) ∙ not-true _ c.if-not-all_values.true-raw) c.halt-then-not-all_values.ensures;
    }

pub bounds-heap-hp : goal.bounds-heap-hp
bounds-heap-hp c =
    let p = went_on (c.charge-turn.ensures (up_to _ _) refl refl) (sym c.goes_on.ensures ∙ c.if-goes_on.true) in omega (arith, p.heap, c.requires.within.heap)

pub bounds-heap-hp-then-goes_on : goal.bounds-heap-hp-then-goes_on
bounds-heap-hp-then-goes_on c =
    let p = went_on (c.charge-turn.ensures (up_to _ _) refl refl) (sym c.goes_on.ensures ∙ c.if-goes_on.true) in simp length-set (omega (arith, p.heap, c.requires.within.heap))

pub put_fields-requires : goal.put_fields-requires
put_fields-requires c =
    let p = went_on (c.charge-turn.ensures (up_to _ _) refl refl) (sym c.goes_on.ensures ∙ c.if-goes_on.true) in (
      omega (arith, c.if-sp-self.false),
      omega (arith, c.requires.fit.sp, c.requires.within.stack),
      simp length-set (omega (arith, p.heap, c.requires.within.heap)),
    )

pub bounds-stack-low : goal.bounds-stack-low
bounds-stack-low c =
    let p = went_on (c.charge-turn.ensures (up_to _ _) refl refl) (sym c.goes_on.ensures ∙ c.if-goes_on.true) in omega (arith, p.depth, c.requires.within.stack)

pub returns-then-goes_on : goal.returns-then-goes_on
returns-then-goes_on c =
    λ wi or.
    record {
      each = λ ws hs h m n.
          settle_yes
          (block_leads c.requires.fit h wi or _ _ _ c.if-sp-self.false
          (sym (c.all_values.ensures ws h.stack m h.sp) ∙ not-false _ c.if-not-all_values.false-raw)) _ _ (c.charge-turn.ensures _ refl refl)
          (sym c.goes_on.ensures ∙ c.if-goes_on.true)
          (λ a b.
          record {
            stack =
                bears_push _ _ _ _ _ (bears_without _ ws _ h.stack) (without_sp c.requires.fit h wi or _)
                (bits_ref _ _ h.hp) (omega (arith, c.requires.within.stack, a));
            heap =
                bears_block c.requires.fit h wi or _ _ _ _ _ (omega (arith, c.if-sp-self.false)) c.put_fields.ensures
                refl refl refl (omega (arith, c.requires.within.heap, b));
            wires = refl;
            order = refl;
          });
    }

pub returns-else-goes_on : goal.returns-else-goes_on
returns-else-goes_on c =
    λ wi or.
    record {
      each = λ ws hs h m n.
          settle_no
          (block_leads c.requires.fit h wi or _ _ _ c.if-sp-self.false
          (sym (c.all_values.ensures ws h.stack m h.sp) ∙ not-false _ c.if-not-all_values.false-raw)) _ (c.charge-turn.ensures _ refl refl)
          (sym c.goes_on.ensures ∙ c.if-goes_on.false);
    }
