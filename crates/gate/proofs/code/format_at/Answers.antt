use Rattle.std.proofs.Common.{arith}
use Rattle.gate.proofs.Instructions.{format_is}
use Rattle.gate.proofs.code.format_at.Goals as goal

pub returns : goal.returns
returns c = format_is c.args.op _ (omega arith)
