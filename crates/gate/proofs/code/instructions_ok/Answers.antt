use Rattle.std.proofs.Common.{◌+◌, ◌*◌, arith, rules, refl, ◌∙◌}
use Rattle.std.proofs.lemmas.Iterator.{YieldsList-from_range}
use Rattle.std.proofs.lemmas.Iterator.Search.{all_from_yields_List}
use Rattle.hume.specs.Image.{byte, half, full}
use Rattle.gate.specs.Parts.{sized, fields_ok}
use Rattle.gate.proofs.Tests.{every_is}
use Rattle.gate.proofs.Instructions.{instructions_are}
use Rattle.gate.proofs.code.instructions_ok.Goals as goal

pub returns : goal.returns
returns c =
    let m = c.args.image.now in
    let start = c.args.start in
    all_from_yields_List (λ k. fields_ok (sized c.args.header) (byte m (start + 8 * k)) (byte m (start + 8 * k + 1))
    (half m (start + 8 * k + 2)) (full m (start + 8 * k + 4))) _ _ c.all.result c.all.ensures.ran
    (YieldsList-from_range 0 c.args.header.size c.args.header.size refl (omega arith)) (λ x b q k. search rules)
    ∙ every_is _ _ ∙ instructions_are m start c.args.header c.requires.read.is c.requires.front
