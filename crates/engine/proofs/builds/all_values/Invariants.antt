use mathlib.Core.Path.{◌≡◌}
use mathlib.Core.List.{List}
use Prim.Native.Nat.{◌-◌}
use lib.ListN.{length}
use Rattle.hume.specs.Words.{Word, is_value}
use Rattle.hume.specs.Tests.{all}
use Rattle.hume.specs.State.{downward}
use Rattle.engine.specs.Turns.{Bears, Smalls}
use Rattle.engine.proofs.builds.all_values.Given as goal

abbrev pub invariant-loop-i : goal.invariant-loop-i
invariant-loop-i l = (ws : List Word) → Bears l.stack ws → Smalls ws → l.sp ≡ length ws → all is_value (downward ws l.i (l.a - l.i)) ≡ all is_value (downward ws 0 l.a)
