use native.Mathlib.Omega.{arith}
use borrow.Author.Tests.{ne_eqb}
use Rattle.engine.proofs.regs.Regs.try_any.Goals as goal

pub returns-in_default : goal.returns-in_default
returns-in_default c =
    record {
      one = λ e. absurd (let z : ⊥ = omega (arith, e) in z);
      two = λ e. absurd (let z : ⊥ = omega (arith, e) in z);
      three = λ e. c.try_raise.ensures.by_index _;
      fair = rw (ne_eqb c.args.op 20 (λ e. let z : ⊥ = omega (arith, e) in z)) c.try_raise.ensures.fair;
    }
