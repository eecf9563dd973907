use Rattle.std.proofs.Common.{arith}
use Rattle.sheet.proofs.Lines.{line_end, kept_both, refused_text}
use Rattle.sheet.proofs.line.refused_line.Goals as goal

pub returns : goal.returns
returns c =
    record {
      is = refused_text _ (line_end c.args.line.now 88 (omega arith)) c.put_figure-number.ensures.is c.put_text.ensures.is;
      kept = kept_both c.put_figure-number.ensures.kept c.put_text.ensures.kept c.put_text.ensures.high;
      low = omega arith;
      high = omega arith;
      sized = omega arith;
    }
