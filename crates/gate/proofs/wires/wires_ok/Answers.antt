use Rattle.std.proofs.Common.{◌+◌, ◌∙◌, sym, refl, ne_eqb, arith, rules}
use Rattle.std.proofs.lemmas.Iterator.{YieldsList-from_range}
use Rattle.std.proofs.lemmas.Iterator.Search.{all_from_yields_List}
use Rattle.hume.specs.Image.{program}
use Rattle.hume.specs.Values.{wire_ok}
use Rattle.gate.proofs.Tests.{every_is}
use Rattle.gate.proofs.Lent.{wires_long, wires_each}
use Rattle.gate.proofs.wires.wires_ok.Goals as goal

pub returns-then-wires-n : goal.returns-then-wires-n
unfolding program
returns-then-wires-n c =
    all_from_yields_List (wire_ok c.args.wires.now) _ _ c.all.result c.all.ensures.ran
    (YieldsList-from_range 0 _ _ refl (omega arith)) (λ x b q k. search rules)
    ∙ every_is _ _
    ∙ wires_each c.args.image.now c.args.wires.now _ (λ j. (c.byte_at.ensures.is j) + (c.byte_at-2.ensures.is j))
    c.if-wires-n.true

pub returns-else-wires-n : goal.returns-else-wires-n
unfolding program
returns-else-wires-n c =
    ne_eqb _ _ c.if-wires-n.false
    ∙ sym (wires_long c.args.image.now c.args.wires.now _
    (λ j. (c.byte_at.ensures.is j) + (c.byte_at-2.ensures.is j)) c.if-wires-n.false)
