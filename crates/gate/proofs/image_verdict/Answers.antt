use Rattle.std.proofs.Common.{sym, ◌∙◌}
use Rattle.laws.proofs.Tests.{of_true}
use Rattle.gate.proofs.Rulesets.{counted}
use Rattle.gate.proofs.image_verdict.Goals as goal

pub code_ok-requires : goal.code_ok-requires
code_ok-requires c = (counted _ _ (of_true (sym c.counts_ok.ensures ∙ c.if-not-counts_ok.false))).size
