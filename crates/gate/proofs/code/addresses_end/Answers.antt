use Rattle.std.proofs.Common.{◌<◌, sym, ◌∙◌, arith}
use Rattle.hume.specs.Image.{program}
use Rattle.gate.proofs.Rulesets.{walked_none, walked_more, walked_all, walked_out, entry_out, rules_are}
use Rattle.gate.proofs.code.addresses_end.Goals as goal
use Rattle.gate.proofs.code.addresses_end.Goals.{then-size-half_at-via-then-size-half_at, then-size-half_at-via-else-size-half_at+then-not-rules_ok}

pub loop-init : goal.loop-init
loop-init c = record { walked = walked_none _ _; low = omega arith }

pub returns-then-size-half_at-clause-is : goal.returns-then-size-half_at-clause-is
unfolding program
returns-then-size-half_at-clause-is c =
    let at = c.loop.invariant.walked.here in
    let low : c.loop.counter < (program c.args.image.now).rulesets =
    omega (arith, c.byte_at-rulesets.ensures.is, c.loop-test.true) in
    walked_out _ _ _ _ low (elim c.then-size-half_at.branch [
      | then-size-half_at-via-then-size-half_at w ↦
          entry_out _ _ _ _ at c.half_at-size.ensures.is _ c.half_at.ensures.is w.if-size-half_at.true
      | then-size-half_at-via-else-size-half_at+then-not-rules_ok w ↦
          rules_are _ _ _ _ at c.half_at-size.ensures.is _ _ c.half_at.ensures.is w.if-size-half_at.false
          c.byte_at-count.ensures.is ∙ sym w.rules_ok.ensures ∙ w.if-not-rules_ok.true
    ])

pub loop-preserved : goal.loop-preserved
loop-preserved c =
    let at = c.loop.invariant.walked.here in
    record {
      walked = walked_more _ _ _ _ _ c.loop.invariant.walked c.byte_at-count.ensures.is
          (rules_are _ _ _ _ at c.half_at-size.ensures.is _ _ c.half_at.ensures.is c.if-size-half_at.false
          c.byte_at-count.ensures.is ∙ sym c.rules_ok.ensures ∙ c.if-not-rules_ok.false);
      low = omega arith;
    }

pub returns-clause-is : goal.returns-clause-is
unfolding program
returns-clause-is c = walked_all _ _ _ _ _ c.loop.invariant.walked (omega (arith, c.byte_at-rulesets.ensures.is))
