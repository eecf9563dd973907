-- What the step needs of the registers and the buffers of an image's program: it holds between any two turns of a run.
use Rattle.std.specs.Prelude.{◌<◌, length}
use Rattle.hume.specs.Image.{Program}
use Rattle.laws.specs.Accepted.{OrderFits, WiresFit}
use Rattle.engine.specs.Turns.{Buffers}
use Rattle.engine.specs.Fits.{Fit, Refs}
use Rattle.engine.specs.Frames.{Framed}
use Rattle.engine.specs.Blocks.{Blocks}
use Rattle.engine.specs.Copies.{TopHeld}
use Rattle.engine.specs.Limits.{up_to, Within}
use Rattle.engine.specs.declared.regs.Regs.{Regs}

pub record Ready (P : Program) (r : Regs) (b : Buffers) : Type 0 where
  pub fit : Fit r
  pub within : Within (up_to (length b.stack) (length b.heap)) r
  pub pc : r.pc < P.size
  pub rs : r.rs < P.rulesets
  pub refs : Refs r b.stack
  pub framed : Framed r b.stack
  pub blocks : Blocks r b.stack b.heap
  pub top : TopHeld r b.stack b.heap
  pub order : OrderFits P b.order
  pub wires : WiresFit P b.wires
