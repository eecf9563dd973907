use Rattle.hume.specs.Image.{half, byte}
use Rattle.engine.proofs.image.half.Goals as goal

pub returns : goal.returns
unfolding half byte
returns c = cc
