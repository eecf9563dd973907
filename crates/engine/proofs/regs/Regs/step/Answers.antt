use mathlib.Core.Path.{refl, sym, ◌∙◌, subst}
use Prim.Native.Nat.{ℕ, ◌<◌}
use native.Mathlib.Omega.{arith}
use Rattle.hume.specs.Image.{program}
use Rattle.hume.specs.Machine.{instruction}
use Rattle.engine.proofs.Arms.{arm}
use Rattle.engine.proofs.Copying.{wire_fits}
use Rattle.engine.proofs.Writing.{wire_room}
use Rattle.engine.proofs.Opcodes.{op_4, op_7, op_8, op_9, op_10, op_11, op_12, op_13, op_14, op_15, op_16, op_17, op_18, op_22, op_23, op_24, op_25, op_26, op_33, op_34, op_35, op_36, op_38, op_39, op_40}
use Rattle.engine.proofs.Dispatching.{applies, makes_bool, makes_int, makes_float, makes_tuple, makes_con, matches_bool, matches_int, matches_float, matches_tuple, matches_con, matches_exn, consumes_maybe, a_callee, applies_at, consuming_at, input_at, output_at_lem}
use Rattle.engine.proofs.regs.Regs.step.Goals as goal
use Rattle.engine.proofs.regs.Regs.step.Goals.{in-27, in-28, in-29, in-30, in-31, in-32, in_default-via-then-op-lt1, in_default-via-else-op-lt1+else-op-lt22}

pub returns-in-1 : goal.returns-in-1
returns-in-1 c =
    arm (program c.args.code.now.image.now) _ c.args.code.now.prices c.opcode_at-op.ensures refl refl c.c_at.ensures (λ s. makes_bool _ _ _ _ _ s c.in-1.is) (c.mk_atom.ensures _ _)

pub returns-in-2 : goal.returns-in-2
returns-in-2 c =
    arm (program c.args.code.now.image.now) _ c.args.code.now.prices c.opcode_at-op.ensures refl refl c.c_at-in-2.ensures (λ s. makes_int _ _ _ _ _ s c.in-2.is) (c.mk_atom-in-2.ensures _ _)

pub returns-in-3 : goal.returns-in-3
returns-in-3 c =
    arm (program c.args.code.now.image.now) _ c.args.code.now.prices c.opcode_at-op.ensures refl refl c.c_at-in-3.ensures (λ s. makes_float _ _ _ _ _ s _ c.canonical.ensures c.in-3.is) (c.mk_atom-in-3.ensures _ _)

pub returns-in-4 : goal.returns-in-4
returns-in-4 c =
    arm (program c.args.code.now.image.now) _ c.args.code.now.prices c.opcode_at-op.ensures refl refl refl (λ s. op_4 _ _ _ _ _ s c.in-4.is) (c.mk_none.ensures _ _ _ _ c.requires.within.heap)

pub returns-in-5 : goal.returns-in-5
returns-in-5 c =
    arm (program c.args.code.now.image.now) _ c.args.code.now.prices c.opcode_at-op.ensures c.a_at.ensures refl refl (λ s. makes_tuple _ _ _ _ _ s c.in-5.is) (c.mk_block.ensures _ _)

pub returns-in-6 : goal.returns-in-6
returns-in-6 c =
    arm (program c.args.code.now.image.now) _ c.args.code.now.prices c.opcode_at-op.ensures c.a_at-in-6.ensures c.b_at.ensures refl (λ s. makes_con _ _ _ _ _ s c.in-6.is) (c.mk_block-in-6.ensures _ _)

pub returns-in-7 : goal.returns-in-7
returns-in-7 c =
    arm (program c.args.code.now.image.now) _ c.args.code.now.prices c.opcode_at-op.ensures c.a_at-in-7.ensures refl refl (λ s. op_7 _ _ _ _ _ s c.in-7.is) (c.push_nulls.ensures _ _ _ _ c.requires.within.heap)

pub returns-in-8 : goal.returns-in-8
returns-in-8 c =
    arm (program c.args.code.now.image.now) _ c.args.code.now.prices c.opcode_at-op.ensures c.a_at-in-8.ensures refl refl (λ s. op_8 _ _ _ _ _ s c.in-8.is) (c.pop.ensures _ _ _ _ _ c.requires.within)

pub returns-in-9 : goal.returns-in-9
returns-in-9 c =
    arm (program c.args.code.now.image.now) _ c.args.code.now.prices c.opcode_at-op.ensures c.a_at-in-9.ensures refl refl (λ s. op_9 _ _ _ _ _ s c.in-9.is) (c.slide.ensures _ _ _ _ c.requires.within)

pub returns-in-10 : goal.returns-in-10
returns-in-10 c =
    arm (program c.args.code.now.image.now) _ c.args.code.now.prices c.opcode_at-op.ensures c.a_at-in-10.ensures refl refl (λ s. op_10 _ _ _ _ _ s c.in-10.is) (c.copy.ensures _ _ _ _ c.requires.within.heap)

pub returns-in-11 : goal.returns-in-11
returns-in-11 c =
    arm (program c.args.code.now.image.now) _ c.args.code.now.prices c.opcode_at-op.ensures c.a_at-in-11.ensures refl refl (λ s. op_11 _ _ _ _ _ s c.in-11.is) (c.copy_arg.ensures _ _ _ _ c.requires.within.heap)

pub returns-in-12 : goal.returns-in-12
returns-in-12 c =
    arm (program c.args.code.now.image.now) _ c.args.code.now.prices c.opcode_at-op.ensures c.a_at-in-12.ensures refl refl (λ s. op_12 _ _ _ _ _ s c.in-12.is) (c.create_frame.ensures _ _ _ _ c.requires.within.heap)

pub returns-in-13 : goal.returns-in-13
returns-in-13 c =
    arm (program c.args.code.now.image.now) _ c.args.code.now.prices c.opcode_at-op.ensures c.a_at-in-13.ensures refl refl (λ s. op_13 _ _ _ _ _ s c.in-13.is) (c.push_var.ensures _ _ _ _ c.requires.within.heap)

pub returns-in-14 : goal.returns-in-14
returns-in-14 c =
    arm (program c.args.code.now.image.now) _ c.args.code.now.prices c.opcode_at-op.ensures c.a_at-in-14.ensures refl refl (λ s. op_14 _ _ _ _ _ s c.in-14.is) (c.make_var.ensures _ _ _ _ c.requires.within)

pub returns-in-15 : goal.returns-in-15
returns-in-15 c =
    arm (program c.args.code.now.image.now) _ c.args.code.now.prices c.opcode_at-op.ensures refl c.b_at-in-15.ensures refl (λ s. op_15 _ _ _ _ _ s c.in-15.is) (c.goto.ensures _ _ _ _ _ c.requires.within)

pub returns-in-16 : goal.returns-in-16
returns-in-16 c =
    arm (program c.args.code.now.image.now) _ c.args.code.now.prices c.opcode_at-op.ensures refl c.b_at-in-16.ensures refl (λ s. op_16 _ _ _ _ _ s c.in-16.is) (c.if_true.ensures _ _ _ c.requires.within)

pub entry_of-requires : goal.entry_of-requires
entry_of-requires c = subst (λ (x : ℕ). x < (program c.args.code.now.image.now).rulesets) (sym c.a_at-a.ensures) (a_callee (program c.args.code.now.image.now) _ (c.args.code.now.imaged.accepted.instruction _ c.requires.pc) (sym c.opcode_at-op.ensures.0 ∙ c.in-17.is))

pub returns-in-17 : goal.returns-in-17
returns-in-17 c =
    arm (program c.args.code.now.image.now) _ c.args.code.now.prices c.opcode_at-op.ensures c.a_at-a.ensures refl refl (λ s. op_17 _ _ _ _ _ s c.in-17.is) (c.call.ensures _ (program c.args.code.now.image.now) _ _ _ (sym c.entry_of.ensures.0) c.requires.within.heap)

pub returns-in-18 : goal.returns-in-18
returns-in-18 c =
    arm (program c.args.code.now.image.now) _ c.args.code.now.prices c.opcode_at-op.ensures refl refl refl (λ s. op_18 _ _ _ _ _ s c.in-18.is) (c.give_back.ensures _ _ _ _ c.requires.within)

pub returns-in-22 : goal.returns-in-22
returns-in-22 c =
    arm (program c.args.code.now.image.now) _ c.args.code.now.prices c.opcode_at-op.ensures refl refl refl (λ s. op_22 _ _ _ _ _ s c.in-22.is) (c.start_matches.ensures _ _ _ _ c.requires.within)

pub returns-in-23 : goal.returns-in-23
returns-in-23 c =
    arm (program c.args.code.now.image.now) _ c.args.code.now.prices c.opcode_at-op.ensures refl refl refl (λ s. op_23 _ _ _ _ _ s c.in-23.is) (c.match_rule.ensures _ _ _ _ _ c.requires.within)

pub returns-in-24 : goal.returns-in-24
returns-in-24 c =
    arm (program c.args.code.now.image.now) _ c.args.code.now.prices c.opcode_at-op.ensures refl refl refl (λ s. op_24 _ _ _ _ _ s c.in-24.is) (c.matched_rule.ensures _ _ _ _ _ c.requires.within)

pub returns-in-25 : goal.returns-in-25
returns-in-25 c =
    arm (program c.args.code.now.image.now) _ c.args.code.now.prices c.opcode_at-op.ensures refl refl refl (λ s. op_25 _ _ _ _ _ s c.in-25.is) (c.match_none.ensures _ _ _ _ _ c.requires.within)

pub returns-in-26 : goal.returns-in-26
returns-in-26 c =
    arm (program c.args.code.now.image.now) _ c.args.code.now.prices c.opcode_at-op.ensures refl refl refl (λ s. op_26 _ _ _ _ _ s c.in-26.is) (c.match_available.ensures _ _ _ c.requires.within)

pub returns-in-33 : goal.returns-in-33
returns-in-33 c =
    arm (program c.args.code.now.image.now) _ c.args.code.now.prices c.opcode_at-op.ensures refl refl refl (λ s. op_33 _ _ _ _ _ s c.in-33.is) (c.unpack.ensures _ _)

pub returns-in-34 : goal.returns-in-34
returns-in-34 c =
    arm (program c.args.code.now.image.now) _ c.args.code.now.prices c.opcode_at-op.ensures refl refl refl (λ s. op_34 _ _ _ _ _ s c.in-34.is) (c.reorder.ensures _ _ _ _ c.requires.within)

pub copy_input-requires-clause-wire_fits : goal.copy_input-requires-clause-wire_fits
copy_input-requires-clause-wire_fits c = wire_fits (program c.args.code.now.image.now) _ _ c.requires.wires (input_at (program c.args.code.now.image.now) _ (c.args.code.now.imaged.accepted.instruction _ c.requires.pc) (sym c.opcode_at-op.ensures.0 ∙ c.in-35.is) c.a_at-in-35.ensures)

pub returns-in-35 : goal.returns-in-35
returns-in-35 c =
    arm (program c.args.code.now.image.now) _ c.args.code.now.prices c.opcode_at-op.ensures c.a_at-in-35.ensures refl refl (λ s. op_35 _ _ _ _ _ s c.in-35.is) (c.copy_input.ensures _)

pub consume-requires-clause-a_in_bounds : goal.consume-requires-clause-a_in_bounds
consume-requires-clause-a_in_bounds c = wire_room (program c.args.code.now.image.now) _ _ c.requires.wires (consuming_at (program c.args.code.now.image.now) _ (c.args.code.now.imaged.accepted.instruction _ c.requires.pc) c.opcode_at-op.ensures.0 c.a_at-in-36.ensures (omega (arith, c.in-36.is)) (omega (arith, c.in-36.is)))

pub returns-in-36 : goal.returns-in-36
returns-in-36 c =
    arm (program c.args.code.now.image.now) _ c.args.code.now.prices c.opcode_at-op.ensures c.a_at-in-36.ensures refl refl (λ s. op_36 _ _ _ _ _ s c.in-36.is) (c.consume.ensures _ _ _ _ c.requires.within)

pub consume-requires-in-37-clause-a_in_bounds : goal.consume-requires-in-37-clause-a_in_bounds
consume-requires-in-37-clause-a_in_bounds c = wire_room (program c.args.code.now.image.now) _ _ c.requires.wires (consuming_at (program c.args.code.now.image.now) _ (c.args.code.now.imaged.accepted.instruction _ c.requires.pc) c.opcode_at-op.ensures.0 c.a_at-in-37.ensures (omega (arith, c.in-37.is)) (omega (arith, c.in-37.is)))

pub returns-in-37 : goal.returns-in-37
returns-in-37 c =
    arm (program c.args.code.now.image.now) _ c.args.code.now.prices c.opcode_at-op.ensures c.a_at-in-37.ensures refl refl (λ s. consumes_maybe _ _ _ _ _ s c.in-37.is) (c.consume-in-37.ensures _ _ _ _ c.requires.within)

pub returns-in-38 : goal.returns-in-38
returns-in-38 c =
    arm (program c.args.code.now.image.now) _ c.args.code.now.prices c.opcode_at-op.ensures refl refl refl (λ s. op_38 _ _ _ _ _ s c.in-38.is) (c.check_outputs.ensures _ (program c.args.code.now.image.now) _ _ (sym c.args.code.now.wires_in) (sym c.args.code.now.wires_out) c.requires.within)

pub write-requires-clause-wire_fits : goal.write-requires-clause-wire_fits
write-requires-clause-wire_fits c = wire_fits (program c.args.code.now.image.now) _ _ c.requires.wires (output_at_lem (program c.args.code.now.image.now) _ (c.args.code.now.imaged.accepted.instruction _ c.requires.pc) (sym c.opcode_at-op.ensures.0 ∙ c.in-39.is) c.a_at-in-39.ensures c.args.code.now.wires_in)

pub returns-in-39 : goal.returns-in-39
returns-in-39 c =
    arm (program c.args.code.now.image.now) _ c.args.code.now.prices c.opcode_at-op.ensures c.a_at-in-39.ensures refl refl (λ s. op_39 _ _ _ _ _ s c.in-39.is) (c.write.ensures _ (program c.args.code.now.image.now) _ (sym c.args.code.now.wires_in) c.requires.within)

pub apply-requires-clause-applies : goal.apply-requires-clause-applies
apply-requires-clause-applies c = applies_at (program c.args.code.now.image.now) _ (c.args.code.now.imaged.accepted.instruction _ c.requires.pc) c.opcode_at-op.ensures.0 c.a_at-in-19.ensures (omega arith) (omega arith)

pub returns-in-19 : goal.returns-in-19
returns-in-19 c =
    arm (program c.args.code.now.image.now) _ c.args.code.now.prices {d = instruction _ (program c.args.code.now.image.now) _ _ _} c.opcode_at-op.ensures c.a_at-in-19.ensures c.b_at-in-19.ensures refl (λ s. refl) (applies _ _ (program c.args.code.now.image.now) _ _ _ (omega arith) (omega arith) (c.apply.ensures.prim1 (program c.args.code.now.image.now) _ _ c.args.code.now.handled) (c.apply.ensures.prim2 (program c.args.code.now.image.now) _ _ c.args.code.now.handled) (c.apply.ensures.raise (program c.args.code.now.image.now) _ _ c.args.code.now.handled))

pub returns-in_default : goal.returns-in_default
returns-in_default c =
    arm (program c.args.code.now.image.now) _ c.args.code.now.prices c.opcode_at-op.ensures refl refl refl (λ s. op_40 _ _ _ _ _ s (elim c.in_default.branch [ in_default-via-then-op-lt1 w ↦ omega arith | in_default-via-else-op-lt1+else-op-lt22 w ↦ omega arith ])) (c.schedule.ensures _ _ _ _ _ c.requires.within)

pub returns : goal.returns
returns c =
    elim c.match-op.branch [
      | in-27 w ↦ arm (program c.args.code.now.image.now) _ c.args.code.now.prices c.opcode_at-op.ensures refl refl w.c_at-in-27.ensures (λ s. matches_bool _ _ _ _ _ s w.pattern-is w.in-27.is) (c.match_cell.ensures _ _ c.requires.within)
      | in-28 w ↦ arm (program c.args.code.now.image.now) _ c.args.code.now.prices c.opcode_at-op.ensures refl refl w.c_at-in-28.ensures (λ s. matches_int _ _ _ _ _ s w.pattern-is w.in-28.is) (c.match_cell.ensures _ _ c.requires.within)
      | in-29 w ↦ arm (program c.args.code.now.image.now) _ c.args.code.now.prices c.opcode_at-op.ensures refl refl w.c_at-in-29.ensures (λ s. matches_float _ _ _ _ _ s _ w.canonical-in-29.ensures w.pattern-is w.in-29.is) (c.match_cell.ensures _ _ c.requires.within)
      | in-30 w ↦ arm (program c.args.code.now.image.now) _ c.args.code.now.prices c.opcode_at-op.ensures w.a_at-in-30.ensures refl refl (λ s. matches_tuple _ _ _ _ _ s w.pattern-is w.in-30.is) (c.match_cell.ensures _ _ c.requires.within)
      | in-31 w ↦ arm (program c.args.code.now.image.now) _ c.args.code.now.prices c.opcode_at-op.ensures w.a_at-in-31.ensures w.b_at-in-31.ensures refl (λ s. matches_con _ _ _ _ _ s w.pattern-is w.in-31.is) (c.match_cell.ensures _ _ c.requires.within)
      | in-32 w ↦ arm (program c.args.code.now.image.now) _ c.args.code.now.prices c.opcode_at-op.ensures refl w.b_at-in-32.ensures refl (λ s. matches_exn _ _ _ _ _ s w.pattern-is w.in-32.is) (c.match_cell.ensures _ _ c.requires.within)
    ]
