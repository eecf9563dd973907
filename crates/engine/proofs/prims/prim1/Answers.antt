use mathlib.Core.Path.{refl, ap}
use native.Mathlib.Omega.{arith}
use Rattle.hume.specs.Primitives.{prim1, one_operand, is_true}
use Rattle.engine.proofs.Yielding.{arm, arm_cut, arm_none, first_one, beyond_one}
use Rattle.engine.proofs.prims.prim1.Goals as goal

pub returns-in-2 : goal.returns-in-2
unfolding prim1 one_operand
returns-in-2 c =
    arm prim1 c.args.a c.args.h c.args.x 0 2 _ _ (ap prim1 c.in-2.is) c.keep.ensures
    c.to_float.ensures refl

pub returns-in-3 : goal.returns-in-3
returns-in-3 c = arm_cut _ _ _ _ c.in-3.is c.converted.ensures c.to_int.ensures

pub returns-in-0 : goal.returns-in-0
unfolding prim1 one_operand is_true
returns-in-0 c =
    arm prim1 c.args.a c.args.h c.args.x 0 1 _ _
    (first_one c.args.a (omega arith)) c.keep-in-0.ensures c.truth.ensures refl

pub returns-in_default : goal.returns-in_default
returns-in_default c =
    arm_none prim1 _ _ _ _ (beyond_one c.args.a (omega arith))
    c.keep-in_default.ensures
