use Rattle.std.proofs.Common.{ℕ, List, ◌++◌, drop, ap, ◌∙◌, arith}
use Rattle.host.proofs.Writing.{room}
use Rattle.host.proofs.record.Goals as goal

pub returns : goal.returns
returns c =
    ap (λ (t : List ℕ). t ++ drop c.min-n.result c.args.figures.now) c.copy_from_slice.ensures.after
    ∙ room c.args.figures.now c.args.eight c.min-n.result (omega arith) (omega arith) (λ h. omega arith)
