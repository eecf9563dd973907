use Rattle.std.proofs.Common.{sym, ap, ◌∙◌}
use Rattle.hume.specs.Image.{program}
use Rattle.hume.specs.Refusals.{code_ok}
use Rattle.gate.specs.Parts.{ends_ok}
use Rattle.gate.proofs.Tests.{and_yes, and_no, found_place, lost_place}
use Rattle.gate.proofs.Instructions.{last_is}
use Rattle.gate.proofs.code.code_ok.Goals as goal

pub returns-in_default : goal.returns-in_default
unfolding code_ok
returns-in_default c = sym (and_no _ _ (lost_place _ _ c.in_default.ensures.is))

pub instructions_ok-requires-clause-read : goal.instructions_ok-requires-clause-read
instructions_ok-requires-clause-read c =
    record { is = (found_place _ _ _ c.in-Some.ensures.is).is; small = c.in-Some.ensures.small }

pub overflow_sub-header : goal.overflow_sub-header
unfolding program
overflow_sub-header c = rw c.of-header.ensures.is c.requires

pub returns-then-instructions_ok : goal.returns-then-instructions_ok
unfolding code_ok
returns-then-instructions_ok c =
    let f = found_place _ _ _ c.in-Some.ensures.is in
    c.ends_ok.ensures ∙ ap ends_ok c.byte_at.ensures.is
    ∙ sym (and_yes _ _ f.passes ∙ and_yes _ _ (sym c.instructions_ok.ensures ∙ c.if-instructions_ok.true)
    ∙ last_is _ _ _ f.is c.of-header.ensures.is)

pub returns-else-instructions_ok : goal.returns-else-instructions_ok
unfolding code_ok
returns-else-instructions_ok c =
    let f = found_place _ _ _ c.in-Some.ensures.is in
    let e = sym c.instructions_ok.ensures ∙ c.if-instructions_ok.false in
    c.if-instructions_ok.false ∙ sym (and_yes _ _ f.passes ∙ and_no _ _ e)
