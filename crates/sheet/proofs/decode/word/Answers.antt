use Rattle.hume.specs.Sheet.{sheet_word}
use Rattle.sheet.proofs.decode.word.Goals as goal

pub returns : goal.returns
unfolding sheet_word
returns c = c.full_at.ensures.is
