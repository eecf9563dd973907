use Rattle.std.proofs.Common.{◌∙◌, ◌+◌, ◌*◌, ltb, rules, tests, refl, arith}
use Rattle.std.proofs.lemmas.Iterator.{YieldsList-from_range}
use Rattle.std.proofs.lemmas.Iterator.Search.{all_from_yields_List}
use Rattle.hume.specs.Image.{half}
use Rattle.gate.specs.Parts.{rules_ok}
use Rattle.gate.proofs.Tests.{every_is}
use Rattle.gate.proofs.code.rules_ok.Goals as goal

pub returns : goal.returns
unfolding rules_ok
returns c =
    all_from_yields_List (λ k. ltb (half c.args.image.now (c.args.at + 2 * k)) c.args.size) _ _ c.all.result
    c.all.ensures.ran (YieldsList-from_range 0 c.args.n c.args.n refl (omega arith)) (λ x b q k. search (rules, tests))
    ∙ every_is _ _
