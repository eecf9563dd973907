use Rattle.hume.specs.Image.{full}
use Rattle.engine.proofs.image.full.Goals as goal

pub returns : goal.returns
unfolding full
returns c = cc
