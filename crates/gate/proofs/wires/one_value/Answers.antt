use Rattle.std.proofs.Common.{refl, ◌∙◌, sym}
use Rattle.gate.proofs.Cells.{first_other, first_same, only_none, value_ends}
use Rattle.gate.proofs.wires.one_value.Goals as goal

pub returns-then-ne : goal.returns-then-ne
returns-then-ne c =
    c.eq.ensures
    ∙ value_ends _ _ (first_other _ _ _ c.first.ensures.value (sym c.ne.ensures ∙ c.if-ne.true) refl) c.cell_end.ensures

pub returns-else-ne : goal.returns-else-ne
returns-else-ne c =
    c.if-ne.false ∙ sym (only_none _ (first_same _ _ _ c.first.ensures.value (sym c.ne.ensures ∙ c.if-ne.false)))
