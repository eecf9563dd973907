use mathlib.Core.Path.{refl, ◌∙◌, ap}
use native.Mathlib.Omega.{arith}
use Rattle.hume.specs.Numbers.{div_int, mod_int}
use Rattle.hume.specs.Primitives.{truth, prim2, two_operands}
use Rattle.engine.proofs.Yielding.{arm, arm_divided, arm_none, first_two, beyond_two}
use Rattle.engine.proofs.prims.pair.Goals as goal

pub returns-in-2 : goal.returns-in-2
unfolding prim2 two_operands
returns-in-2 c =
    arm prim2 c.args.a c.args.h c.args.x c.args.y 2 _ _ (ap prim2 c.in-2.is)
    c.keep.ensures c.truth.ensures refl

pub returns-in-3 : goal.returns-in-3
unfolding prim2 two_operands
returns-in-3 c =
    arm prim2 c.args.a c.args.h c.args.x c.args.y 3 _ _ (ap prim2 c.in-3.is)
    c.keep-in-3.ensures (c.truth-in-3.ensures ∙ ap truth c.le_int.ensures) refl

pub returns-in-4 : goal.returns-in-4
unfolding prim2 two_operands
returns-in-4 c =
    arm prim2 c.args.a c.args.h c.args.x c.args.y 4 _ _ (ap prim2 c.in-4.is)
    c.keep-in-4.ensures (c.truth-in-4.ensures ∙ ap truth c.lt_int.ensures) refl

pub returns-in-5 : goal.returns-in-5
unfolding prim2 two_operands
returns-in-5 c =
    arm prim2 c.args.a c.args.h c.args.x c.args.y 5 _ _ (ap prim2 c.in-5.is)
    c.keep-in-5.ensures (c.truth-in-5.ensures ∙ ap truth c.le_int-in-5.ensures) refl

pub returns-in-6 : goal.returns-in-6
unfolding prim2 two_operands
returns-in-6 c =
    arm prim2 c.args.a c.args.h c.args.x c.args.y 6 _ _ (ap prim2 c.in-6.is)
    c.keep-in-6.ensures (c.truth-in-6.ensures ∙ ap truth c.lt_int-in-6.ensures) refl

pub returns-in-7 : goal.returns-in-7
unfolding prim2 two_operands
returns-in-7 c =
    arm prim2 c.args.a c.args.h c.args.x c.args.y 7 _ _ (ap prim2 c.in-7.is)
    c.keep-in-7.ensures c.add_int.ensures refl

pub returns-in-8 : goal.returns-in-8
unfolding prim2 two_operands
returns-in-8 c =
    arm prim2 c.args.a c.args.h c.args.x c.args.y 8 _ _ (ap prim2 c.in-8.is)
    c.keep-in-8.ensures c.sub_int.ensures refl

pub returns-in-9 : goal.returns-in-9
unfolding prim2 two_operands
returns-in-9 c =
    arm prim2 c.args.a c.args.h c.args.x c.args.y 9 _ _ (ap prim2 c.in-9.is)
    c.keep-in-9.ensures c.mul_int.ensures refl

pub returns-in-10 : goal.returns-in-10
unfolding prim2 two_operands
returns-in-10 c =
    arm_divided prim2 c.args.a c.args.h c.args.x c.args.y 10 _ div_int
    (ap prim2 c.in-10.is) c.divided.ensures c.div_int.ensures refl

pub returns-in-11 : goal.returns-in-11
unfolding prim2 two_operands
returns-in-11 c =
    arm_divided prim2 c.args.a c.args.h c.args.x c.args.y 11 _ mod_int
    (ap prim2 c.in-11.is) c.divided-in-11.ensures c.mod_int.ensures refl

pub returns-in-12 : goal.returns-in-12
unfolding prim2 two_operands
returns-in-12 c =
    arm prim2 c.args.a c.args.h c.args.x c.args.y 12 _ _ (ap prim2 c.in-12.is)
    c.keep-in-12.ensures c.both.ensures refl

pub returns-in-13 : goal.returns-in-13
unfolding prim2 two_operands
returns-in-13 c =
    arm prim2 c.args.a c.args.h c.args.x c.args.y 13 _ _ (ap prim2 c.in-13.is)
    c.keep-in-13.ensures c.either.ensures refl

pub returns-in-14 : goal.returns-in-14
unfolding prim2 two_operands
returns-in-14 c =
    arm prim2 c.args.a c.args.h c.args.x c.args.y 14 _ _ (ap prim2 c.in-14.is)
    c.keep-in-14.ensures (c.truth-in-14.ensures ∙ ap truth c.eq_float.ensures) refl

pub returns-in-15 : goal.returns-in-15
unfolding prim2 two_operands
returns-in-15 c =
    arm prim2 c.args.a c.args.h c.args.x c.args.y 15 _ _ (ap prim2 c.in-15.is)
    c.keep-in-15.ensures (c.truth-in-15.ensures ∙ ap truth c.le_float.ensures) refl

pub returns-in-16 : goal.returns-in-16
unfolding prim2 two_operands
returns-in-16 c =
    arm prim2 c.args.a c.args.h c.args.x c.args.y 16 _ _ (ap prim2 c.in-16.is)
    c.keep-in-16.ensures (c.truth-in-16.ensures ∙ ap truth c.lt_float.ensures) refl

pub returns-in-17 : goal.returns-in-17
unfolding prim2 two_operands
returns-in-17 c =
    arm prim2 c.args.a c.args.h c.args.x c.args.y 17 _ _ (ap prim2 c.in-17.is)
    c.keep-in-17.ensures (c.truth-in-17.ensures ∙ ap truth c.le_float-in-17.ensures) refl

pub returns-in-18 : goal.returns-in-18
unfolding prim2 two_operands
returns-in-18 c =
    arm prim2 c.args.a c.args.h c.args.x c.args.y 18 _ _ (ap prim2 c.in-18.is)
    c.keep-in-18.ensures (c.truth-in-18.ensures ∙ ap truth c.lt_float-in-18.ensures) refl

pub returns-in-19 : goal.returns-in-19
unfolding prim2 two_operands
returns-in-19 c =
    arm prim2 c.args.a c.args.h c.args.x c.args.y 19 _ _ (ap prim2 c.in-19.is)
    c.keep-in-19.ensures c.add_float.ensures refl

pub returns-in-20 : goal.returns-in-20
unfolding prim2 two_operands
returns-in-20 c =
    arm prim2 c.args.a c.args.h c.args.x c.args.y 20 _ _ (ap prim2 c.in-20.is)
    c.keep-in-20.ensures c.sub_float.ensures refl

pub returns-in-21 : goal.returns-in-21
unfolding prim2 two_operands
returns-in-21 c =
    arm prim2 c.args.a c.args.h c.args.x c.args.y 21 _ _ (ap prim2 c.in-21.is)
    c.keep-in-21.ensures c.mul_float.ensures refl

pub returns-in-22 : goal.returns-in-22
unfolding prim2 two_operands
returns-in-22 c =
    arm prim2 c.args.a c.args.h c.args.x c.args.y 22 _ _ (ap prim2 c.in-22.is)
    c.keep-in-22.ensures c.div_float.ensures refl

pub returns-in-0 : goal.returns-in-0
unfolding prim2 two_operands
returns-in-0 c =
    arm prim2 c.args.a c.args.h c.args.x c.args.y 1 _ _
    (first_two c.args.a (omega arith)) c.keep-in-0.ensures c.truth-in-0.ensures refl

pub returns-in_default : goal.returns-in_default
returns-in_default c =
    arm_none prim2 _ _ _ _ (beyond_two c.args.a (omega arith))
    c.keep-in_default.ensures
