use Rattle.engine.proofs.Trying.{compare_none, compare_kind, compare_tries, argument_word}
use Rattle.engine.specs.Attempts.{faulty, tries}
use borrow.Author.Tests.{not-true, not-false}
use Prim.Native.Nat.{◌+◌, ◌-◌, ◌<◌}
use native.Mathlib.Omega.{arith}
use mathlib.Core.Path.{refl, sym, ◌∙◌}
use Rattle.engine.proofs.regs.Regs.compare.Goals as goal

pub returns-then-self-k : goal.returns-then-self-k
returns-then-self-k c =
    λ P wi or. record { each = λ ws hs h m n. faulty 3 refl (compare_none h wi or P _ c.if-self-k.true) }

pub returns-then-not-is_value : goal.returns-then-not-is_value
returns-then-not-is_value c =
    let p = c.args.self.fp - (5 + c.args.self.mp) in let l : p < c.args.self.sp = omega (arith, c.if-self-k.false, c.requires.mp_bound) in λ P wi or. record { each = λ ws hs h m n. faulty 2 refl (compare_kind h wi or P _ c.if-self-k.false (sym (c.is_value.ensures _ (argument_word h wi or _ p l refl) (m.each p)) ∙ not-true _ c.if-not-is_value.true-raw)) }

pub returns : goal.returns
returns c =
    let p = c.args.self.fp - (5 + c.args.self.mp) in let l : p < c.args.self.sp = omega (arith, c.if-self-k.false, c.requires.mp_bound) in λ P wi or. record { each = λ ws hs h m n. let e = argument_word h wi or _ p l refl in tries _ refl (compare_tries h wi or P _ _ c.if-self-k.false (sym (c.is_value.ensures _ e (m.each p)) ∙ not-false _ c.if-not-is_value.false-raw) (c.cell_matches.ensures _ hs e (m.each p) h.heap (λ k. omega (arith, h.hp, c.requires.refs.each p l k)))) }
