use Rattle.std.proofs.Common.{◌≡◌, true, false, ◌&&◌, leb, refl, sym, ◌∙◌, rules, tests}
use Rattle.gate.proofs.Tests.{and_yes, and_no}
use Rattle.gate.proofs.Instructions.{fields_read, opcode_out, fields_are}
use Rattle.gate.proofs.code.instruction_ok.Goals as goal
use Rattle.gate.proofs.code.instruction_ok.Goals.{then-allows, else-allows}

pub returns-then-not-contains : goal.returns-then-not-contains
returns-then-not-contains c =
    let out : (leb 1 c.byte_at-op.result && leb c.byte_at-op.result 40) ≡ false = search (rules, tests) in
    sym (fields_read _ c.byte_at-op.ensures.is refl refl refl ∙ opcode_out _ _ _ _ _ out)

pub returns-then-allows-2 : goal.returns-then-allows-2
returns-then-allows-2 c =
    let within : (leb 1 c.byte_at-op.result && leb c.byte_at-op.result 40) ≡ true = search (rules, tests) in
    elim c.if-allows.branch [
      | then-allows w ↦
          c.allows-then-allows-2.ensures
          ∙ sym (fields_read _ c.byte_at-op.ensures.is c.byte_at.ensures.is w.half_at.ensures.is c.full_at.ensures.is
          ∙ fields_are _ _ _ _ _ within _ c.format_at-kinds.ensures
          ∙ and_yes _ _ (sym c.allows.ensures ∙ w.if-allows.true)
          ∙ and_yes _ _ (sym w.allows-then-allows.ensures ∙ sym w.value-is ∙ c.if-allows-2.true))
      | else-allows w ↦ absurd (let e : true ≡ false = sym c.if-allows-2.true ∙ w.value-is ∙ w.if-allows.false in cc)
    ]

pub returns-else-allows-2 : goal.returns-else-allows-2
returns-else-allows-2 c =
    let within : (leb 1 c.byte_at-op.result && leb c.byte_at-op.result 40) ≡ true = search (rules, tests) in
    elim c.if-allows.branch [
      | then-allows w ↦
          c.if-allows-2.false
          ∙ sym (fields_read _ c.byte_at-op.ensures.is c.byte_at.ensures.is w.half_at.ensures.is refl
          ∙ fields_are _ _ _ _ _ within _ c.format_at-kinds.ensures
          ∙ and_yes _ _ (sym c.allows.ensures ∙ w.if-allows.true)
          ∙ and_no _ _ (sym w.allows-then-allows.ensures ∙ sym w.value-is ∙ c.if-allows-2.false))
      | else-allows w ↦
          c.if-allows-2.false
          ∙ sym (fields_read _ c.byte_at-op.ensures.is c.byte_at.ensures.is refl refl
          ∙ fields_are _ _ _ _ _ within _ c.format_at-kinds.ensures
          ∙ and_no _ _ (sym c.allows.ensures ∙ w.if-allows.false))
    ]
