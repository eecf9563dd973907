use Rattle.std.proofs.Common.{sym, ◌∙◌, ◌&&◌, leb, rules, tests, eq-eqb}
use Rattle.std.proofs.lemmas.Iterator.{YieldsList-from_slice}
use Rattle.std.proofs.lemmas.Iterator.Search.{all_from_yields_List}
use Rattle.hume.specs.Refusals.{card_ok}
use Rattle.gate.proofs.Tests.{all_is, and_yes}
use Rattle.gate.proofs.card_ok.Goals as goal

pub returns-then-card-eq40 : goal.returns-then-card-eq40
unfolding card_ok
returns-then-card-eq40 c =
    all_from_yields_List (λ x. leb 1 x && leb x 65535) _ _ c.all.result c.all.ensures.ran
    (YieldsList-from_slice c.args.card.now cc) (λ x b q k. search (rules, tests))
    ∙ all_is _ _ ∙ sym (and_yes _ _ (eq-eqb _ 40 c.if-card-eq40.true))
