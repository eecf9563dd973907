use Rattle.engine.specs.Limits.{up_to}
use mathlib.Core.Path.{refl, sym, ◌∙◌}
use native.Mathlib.Omega.{arith}
use lib.ListN.{length-set}
use lib.Seq.{length-take-le}
use Rattle.laws.proofs.Words.{bits_raw}
use Rattle.engine.proofs.Turning.{settle_yes, settle_no, went_on}
use Rattle.engine.proofs.Areas.{bears_push, bears_take}
use Rattle.engine.proofs.Building.{bears_two, bits_ref}
use Rattle.engine.proofs.Yielding.{give_leads}
use Rattle.engine.proofs.regs.Regs.give.Goals as goal

pub bounds-heap-hp : goal.bounds-heap-hp
bounds-heap-hp c =
    let p = went_on (c.charge-turn.ensures (up_to _ _) refl refl) (sym c.goes_on.ensures ∙ c.if-goes_on.true) in omega (arith, p.heap, c.requires.within.heap)

pub bounds-heap-hp-then-goes_on : goal.bounds-heap-hp-then-goes_on
bounds-heap-hp-then-goes_on c =
    let p = went_on (c.charge-turn.ensures (up_to _ _) refl refl) (sym c.goes_on.ensures ∙ c.if-goes_on.true) in simp length-set (omega (arith, p.heap, c.requires.within.heap))

pub bounds-stack-low : goal.bounds-stack-low
bounds-stack-low c =
    let p = went_on (c.charge-turn.ensures (up_to _ _) refl refl) (sym c.goes_on.ensures ∙ c.if-goes_on.true) in omega (arith, p.depth, c.requires.within.stack)

pub returns-then-goes_on : goal.returns-then-goes_on
returns-then-goes_on c =
    λ t k wi or d.
    record {
      each = λ ws hs h m n.
          settle_yes
          (give_leads h wi or c.requires.fit _ t k _ _ _ c.requires.lp_le_low.0 c.requires.lp_le_low.1 d) _
          _ (c.charge-turn.ensures _ refl refl) (sym c.goes_on.ensures ∙ c.if-goes_on.true)
          (λ a b.
          record {
            stack =
                bears_push _ _ _ _ _
                (bears_take _ ws c.args.low (omega (arith, c.requires.lp_le_low.1, h.sp)) h.stack)
                (sym (length-take-le c.args.low ws (omega (arith, c.requires.lp_le_low.1, h.sp))))
                (bits_ref _ _ h.hp) (omega (arith, c.requires.within.stack, a));
            heap =
                bears_two _ hs _ _ _ _ _ _ h.heap h.hp refl (sym (bits_raw _)) (sym (bits_raw _))
                (omega (arith, c.requires.within.heap, b));
            wires = refl;
            order = refl;
          });
    }

pub returns-else-goes_on : goal.returns-else-goes_on
returns-else-goes_on c =
    λ t k wi or d.
    record {
      each = λ ws hs h m n.
          settle_no
          (give_leads h wi or c.requires.fit _ t k _ _ _ c.requires.lp_le_low.0 c.requires.lp_le_low.1 d) _
          (c.charge-turn.ensures _ refl refl) (sym c.goes_on.ensures ∙ c.if-goes_on.false);
    }
