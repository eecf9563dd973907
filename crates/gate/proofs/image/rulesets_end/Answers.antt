use Rattle.std.proofs.Common.{◌∙◌, arith, rules, tests}
use Rattle.gate.proofs.Rulesets.{walked_none, walked_more, walked_all, walked_out, count_range}
use Rattle.gate.proofs.image.rulesets_end.Goals as goal

pub loop-init : goal.loop-init
loop-init c = record { walked = walked_none _ _; low = omega arith }

pub returns-then-not-contains-clause-is : goal.returns-then-not-contains-clause-is
returns-then-not-contains-clause-is c =
    let w = c.loop.invariant.walked in
    walked_out _ _ _ c.loop.counter c.loop-test.true
    (count_range _ _ _ _ w.here c.byte_at-count.ensures.is ∙ search (rules, tests))

pub loop-preserved : goal.loop-preserved
loop-preserved c =
    let w = c.loop.invariant.walked in
    record {
      walked = walked_more _ _ _ _ _ w c.byte_at-count.ensures.is
          (count_range _ _ _ _ w.here c.byte_at-count.ensures.is ∙ search (rules, tests));
      low = omega arith;
    }

pub returns-clause-is : goal.returns-clause-is
returns-clause-is c = walked_all _ _ _ _ _ c.loop.invariant.walked (omega arith)
