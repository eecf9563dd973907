use Rattle.engine.specs.Limits.{up_to}
use mathlib.Core.Path.{refl, sym, ◌∙◌, subst}
use native.Mathlib.Omega.{arith}
use lib.ListN.{length-set}
use Rattle.engine.specs.Outcomes.{Handled}
use Rattle.engine.proofs.Turning.{settle_yes, settle_no, went_on}
use Rattle.engine.proofs.Building.{bits_ref}
use Rattle.engine.proofs.Yielding.{unhandled_stops, raise_leads, bears_thrown, bears_exn}
use Rattle.engine.proofs.regs.Regs.raise.Goals as goal

pub returns-in_default : goal.returns-in_default
returns-in_default c =
    λ P t k wi or d z.
    record { each = λ ws hs h m n. unhandled_stops h wi or _ P t k _ _ (subst (Handled P) c.in_default.is d) c.halt.ensures }

pub bounds-heap-hp : goal.bounds-heap-hp
bounds-heap-hp c =
    let p = went_on (c.charge-turn.ensures (up_to _ _) refl refl) (sym c.goes_on.ensures ∙ c.if-goes_on.true) in omega (arith, p.heap)

pub bounds-heap-hp-then-goes_on : goal.bounds-heap-hp-then-goes_on
bounds-heap-hp-then-goes_on c =
    let p = went_on (c.charge-turn.ensures (up_to _ _) refl refl) (sym c.goes_on.ensures ∙ c.if-goes_on.true) in simp length-set (omega (arith, p.heap))

pub bounds-heap-hp-then-goes_on-2 : goal.bounds-heap-hp-then-goes_on-2
bounds-heap-hp-then-goes_on-2 c =
    let p = went_on (c.charge-turn.ensures (up_to _ _) refl refl) (sym c.goes_on.ensures ∙ c.if-goes_on.true) in simp length-set (omega (arith, p.heap))

pub bounds-stack-0 : goal.bounds-stack-0
bounds-stack-0 c =
    let p = went_on (c.charge-turn.ensures (up_to _ _) refl refl) (sym c.goes_on.ensures ∙ c.if-goes_on.true) in omega (arith, p.depth)

pub bounds-stack-1 : goal.bounds-stack-1
bounds-stack-1 c =
    let p = went_on (c.charge-turn.ensures (up_to _ _) refl refl) (sym c.goes_on.ensures ∙ c.if-goes_on.true) in simp length-set (omega (arith, p.depth))

pub bounds-stack-2 : goal.bounds-stack-2
bounds-stack-2 c =
    let p = went_on (c.charge-turn.ensures (up_to _ _) refl refl) (sym c.goes_on.ensures ∙ c.if-goes_on.true) in simp length-set (omega (arith, p.depth))

pub bounds-stack-3 : goal.bounds-stack-3
bounds-stack-3 c =
    let p = went_on (c.charge-turn.ensures (up_to _ _) refl refl) (sym c.goes_on.ensures ∙ c.if-goes_on.true) in simp length-set (omega (arith, p.depth))

pub bounds-stack-4 : goal.bounds-stack-4
bounds-stack-4 c =
    let p = went_on (c.charge-turn.ensures (up_to _ _) refl refl) (sym c.goes_on.ensures ∙ c.if-goes_on.true) in simp length-set (omega (arith, p.depth))

pub returns-then-goes_on : goal.returns-then-goes_on
returns-then-goes_on c =
    λ P t k wi or d z.
    record {
      each = λ ws hs h m n.
          settle_yes (raise_leads h wi or P _ t k _ _ _ (subst (Handled P) c.in-Some.is d) z) _ _ (c.charge-turn.ensures _ refl refl) (sym c.goes_on.ensures ∙ c.if-goes_on.true)
          (λ a b.
          record {
            stack =
                bears_thrown c.args.stack.now _ _ (bits_ref _ _ h.hp)
                (omega (arith, c.requires.within.stack, a));
            heap =
                bears_exn c.args.heap.now hs _ _ _ _ h.heap h.hp refl
                (omega (arith, c.requires.within.heap, b));
            wires = refl;
            order = refl;
          });
    }

pub returns-else-goes_on : goal.returns-else-goes_on
returns-else-goes_on c =
    λ P t k wi or d z.
    record {
      each = λ ws hs h m n.
          settle_no (raise_leads h wi or P _ t k _ _ _ (subst (Handled P) c.in-Some.is d) z) _ (c.charge-turn.ensures _ refl refl) (sym c.goes_on.ensures ∙ c.if-goes_on.false);
    }
