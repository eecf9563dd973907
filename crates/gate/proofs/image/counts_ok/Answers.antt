use Rattle.std.proofs.Common.{sym, ◌∙◌}
use Rattle.gate.proofs.Rulesets.{counts_out, counts_lost, counts_end_lem, ranges_rulesets}
use Rattle.gate.proofs.image.counts_ok.Goals as goal

pub returns-then-not-in_range : goal.returns-then-not-in_range
returns-then-not-in_range c =
    sym (counts_out _ _ c.of-header.ensures.is (sym c.in_range.ensures ∙ c.if-not-in_range.true))

pub rulesets_end-requires : goal.rulesets_end-requires
rulesets_end-requires c = ranges_rulesets _ _ _ _ _ (sym c.in_range.ensures ∙ c.if-not-in_range.false)

pub returns-in_default : goal.returns-in_default
returns-in_default c =
    sym (counts_lost _ _ c.of-header.ensures.is (sym c.in_range.ensures ∙ c.if-not-in_range.false)
    c.in_default.ensures.is)

pub returns : goal.returns
returns c =
    counts_end_lem _ _ c.of-header.ensures.is (sym c.in_range.ensures ∙ c.if-not-in_range.false) _ c.in-Some.ensures.is
