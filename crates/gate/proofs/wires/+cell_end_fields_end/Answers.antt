use Rattle.std.proofs.Common.{T, ◌≡◌, ◌+◌, get_or, sym, subst, ◌∙◌, arith, rules}
use Rattle.laws.proofs.Tests.{of_true}
use Rattle.gate.proofs.Cells.{past_end, a_none, cut_short, an_atom, a_block, neither, no_field, bad_field, more_fields, moved}
use Rattle.gate.proofs.wires.+cell_end_fields_end.Goals as goal

pub cell_end-returns-in_err-h : goal.cell_end-returns-in_err-h
cell_end-returns-in_err-h t c = rw c.from_residual.ensures (past_end _ _ (search rules))

pub cell_end-returns-then-h-eq-NONE_CELL : goal.cell_end-returns-then-h-eq-NONE_CELL
cell_end-returns-then-h-eq-NONE_CELL t c =
    let h : get_or c.args.s.now c.args.i 0 ≡ c.in_ok-h.field-0.now = search rules in
    a_none _ _ (search rules) (h ∙ c.if-h-eq-NONE_CELL.true)

pub cell_end-returns-in_err-x : goal.cell_end-returns-in_err-x
cell_end-returns-in_err-x t c =
    let h : get_or c.args.s.now c.args.i 0 ≡ c.in_ok-h.field-0.now = search rules in
    rw c.from_residual-in_err-x.ensures (cut_short _ _ (λ z. c.if-h-eq-NONE_CELL.false (sym h ∙ z)) (search rules))

pub cell_end-returns-then-atom_ok : goal.cell_end-returns-then-atom_ok
cell_end-returns-then-atom_ok t c =
    let h : get_or c.args.s.now c.args.i 0 ≡ c.in_ok-h.field-0.now = search rules in
    let x : get_or c.args.s.now (c.args.i + 1) 0 ≡ c.in_ok-x.field-0.now = search rules in
    an_atom _ _ (λ z. c.if-h-eq-NONE_CELL.false (sym h ∙ z)) (search rules)
    (of_true (rw (h, x) (sym c.atom_ok.ensures ∙ c.if-atom_ok.true)))

pub cell_end-returns-then-block_ok : goal.cell_end-returns-then-block_ok
cell_end-returns-then-block_ok t c =
    let h : get_or c.args.s.now c.args.i 0 ≡ c.in_ok-h.field-0.now = search rules in
    let x : get_or c.args.s.now (c.args.i + 1) 0 ≡ c.in_ok-x.field-0.now = search rules in
    a_block _ _ (λ z. c.if-h-eq-NONE_CELL.false (sym h ∙ z)) (search rules)
    (of_true (rw (h, x) (sym c.block_ok.ensures ∙ c.if-block_ok.true))) _ (rw x c.fields_end.ensures)

pub cell_end-returns : goal.cell_end-returns
cell_end-returns t c =
    let h : get_or c.args.s.now c.args.i 0 ≡ c.in_ok-h.field-0.now = search rules in
    let x : get_or c.args.s.now (c.args.i + 1) 0 ≡ c.in_ok-x.field-0.now = search rules in
    neither _ _ (λ z. c.if-h-eq-NONE_CELL.false (sym h ∙ z))
    (λ y. subst T (sym c.atom_ok.ensures ∙ c.if-atom_ok.false) (rw (h, x) at y))
    (λ y. subst T (sym c.block_ok.ensures ∙ c.if-block_ok.false) (rw (h, x) at y))

pub fields_end-returns-in_err-end : goal.fields_end-returns-in_err-end
fields_end-returns-in_err-end t c =
    rw c.from_residual.ensures
    (c.loop.invariant.rest _ (bad_field _ _ _ (λ z. absurd (omega arith)) (rw c.in_err-end.was at c.cell_end.ensures)))

pub fields_end-loop-preserved : goal.fields_end-loop-preserved
fields_end-loop-preserved t c =
    let on = moved _ _ _ c.in_ok-end.ensures in
    record {
      on = omega arith;
      within = on.within;
      rest = λ e f. c.loop.invariant.rest e (more_fields _ _ _ _ _ e (omega arith) c.in_ok-end.ensures f);
    }

pub fields_end-returns : goal.fields_end-returns
fields_end-returns t c = c.loop.invariant.rest _ (no_field _ _ _ (omega arith) c.loop.invariant.within)
