-- What was read is as much as was asked for, or less: either way each byte of it was asked for by those before it.
use Rattle.std.proofs.Common.{ℕ, ◌≢◌, ◌+◌, ◌-◌, ◌≤◌, ◌<◌, arith, length-drop, rules}
use Rattle.std.proofs.lemmas.Grind.{common_steps}
use Rattle.std.proofs.lemmas.List.{length-take}
use Rattle.ham.specs.declared.End.TheVariants.{Full}
use Rattle.ham.proofs.Reading.{still, all_asked}
use Rattle.ham.proofs.collect.Goals as goal

pub returns-then-ne : goal.returns-then-ne
returns-then-ne g c =
    let loop = c.loop-count in
    let asked = c.needed-upto.ensures in
    let fill = c.fill-got in
    let n = fill.result.count in
    let cut : fill.result.end ≢ Full = search rules in
    let fewer : loop.count + n < c.needed-upto.result =
    omega (arith, length-take {A = ℕ}, length-drop {A = ℕ}, fill.ensures.short cut) in
    let same =
    still loop.input fill.new.part loop.count (c.needed-upto.result - loop.count) loop.invariant.within c.needed-upto.result asked.is n fill.ensures.within fewer in
    record {
      within = grind (arith, common_steps);
      asked = all_asked loop.input fill.new.part loop.count _ loop.invariant.within c.needed-upto.result asked.is loop.invariant.asked n fill.ensures.within (omega (arith, fewer));
      enough = λ e. search (rules, cut e);
      cut = λ e. omega (arith, same, fewer);
    }

pub loop-count-preserved : goal.loop-count-preserved
loop-count-preserved g c =
    let loop = c.loop-count in
    let fill = c.fill-got in
    let n = fill.result.count in
    let most : loop.count + n ≤ c.needed-upto.result =
    omega (arith, length-take {A = ℕ}, length-drop {A = ℕ}) in
    record {
      within = grind (arith, common_steps);
      asked = all_asked loop.input fill.new.part loop.count _ loop.invariant.within c.needed-upto.result c.needed-upto.ensures.is loop.invariant.asked n fill.ensures.within most;
    }
