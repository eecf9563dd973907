use Rattle.engine.proofs.Imaging.{place_room, entry_at, rulesets_most, handler_below, begins, fills, inputs_is, outputs_is, handler_is}
use Rattle.hume.specs.Image.{program}
use native.Mathlib.Omega.{arith}
use mathlib.Core.Path.{refl, sym, subst, ◌∙◌}
use Rattle.engine.specs.Outcomes.{Handled}
use Rattle.engine.proofs.image.Code.new.Goals as goal
use Rattle.engine.proofs.image.Code.new.Goals.{then-ruleset-eq255, else-ruleset-eq255}

pub bounds-rulesets-image : goal.bounds-rulesets-image
bounds-rulesets-image c = omega (arith, rulesets_most c.requires.imaged, c.requires.located.long)

pub bounds-rulesets-ruleset : goal.bounds-rulesets-ruleset
bounds-rulesets-ruleset c =
    omega (arith, handler_below c.requires.imaged refl c.if-ruleset-eq255.false, c.requires.imaged.accepted.rulesets, c.requires.located.long)

pub half-requires : goal.half-requires
half-requires c =
    omega (arith, place_room c.requires.imaged c.requires.located _ (handler_below c.requires.imaged refl c.if-ruleset-eq255.false))

pub invariant_of-result : goal.invariant_of-result
invariant_of-result c =
    let i = c.requires.imaged in
    let l = c.requires.located in
    let m = c.args.image.now in
    record {
      imaged = i;
      located = l;
      prices = c.requires.prices;
      cycled = c.requires.cycled;
      started = begins i l;
      tables = λ r h. place_room i l r h;
      instructions = fills i l;
      wires_in = inputs_is m;
      wires_out = outputs_is m;
      handled =
          elim c.if-ruleset-eq255.branch [
            | then-ruleset-eq255 w ↦ subst (Handled (program m)) (sym w.handler-is)
                (handler_is m ∙ w.if-ruleset-eq255.true)
            | else-ruleset-eq255 w ↦ subst (Handled (program m)) (sym w.handler-is)
                (handler_is m, w.if-ruleset-eq255.false, sym (w.half.ensures ∙ entry_at i l _ (handler_below i refl w.if-ruleset-eq255.false)))
          ];
    }
