use mathlib.Core.Path.{refl, sym, ◌∙◌}
use Rattle.engine.proofs.Turning.{turned_as}
use Rattle.engine.proofs.Moving.{reads_argument, small_argument, copy_arg_low, copy_arg_kind, copy_arg_is}
use borrow.Author.Tests.{not-true, not-false}
use Rattle.engine.proofs.regs.Regs.copy_arg.Goals as goal

pub returns-then-fp-i : goal.returns-then-fp-i
returns-then-fp-i c =
    λ hl he wi or wn. record { each = λ ws hs h m n. copy_arg_low c.requires.fit h wi or _ _ c.if-fp-i.true c.halt.ensures }

pub returns-then-not-is_plain : goal.returns-then-not-is_plain
returns-then-not-is_plain c =
    λ hl he wi or wn. record { each = λ ws hs h m n. copy_arg_kind c.requires.fit h wi or _ _ c.if-fp-i.false (sym (c.is_plain.ensures _ (reads_argument c.requires.fit h wi or _ _ c.if-fp-i.false refl) (small_argument c.requires.fit h wi or _ m)) ∙ not-true _ c.if-not-is_plain.true-raw) c.halt-then-not-is_plain.ensures }

pub returns : goal.returns
returns c =
    λ hl he wi or wn. record { each = λ ws hs h m n. let e = reads_argument c.requires.fit h wi or _ _ c.if-fp-i.false refl in turned_as _ _ (copy_arg_is c.requires.fit h wi or _ c.if-fp-i.false (sym (c.is_plain.ensures _ e (small_argument c.requires.fit h wi or _ m)) ∙ not-false _ c.if-not-is_plain.false-raw)) ((c.push.ensures _ _ he wi or e wn).each ws hs h m n) }
