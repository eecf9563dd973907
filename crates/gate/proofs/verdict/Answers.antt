use Rattle.std.proofs.Common.{sym}
use Rattle.hume.specs.Call.{refusal, first_of, lent_refusal}
use Rattle.gate.proofs.verdict.Goals as goal

pub returns : goal.returns
unfolding refusal first_of lent_refusal
returns c = rw (sym c.image_verdict.ensures, c.in_ok-image_verdict.was) c.lent_verdict.ensures
