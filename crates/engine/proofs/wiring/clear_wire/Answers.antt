use mathlib.Core.Path.{◌≡◌, refl}
use native.Mathlib.Omega.{arith}
use lib.ListN.{replicate}
use Rattle.std.proofs.Common.{rules}
use Rattle.std.proofs.lemmas.Slice.{put_mid-paste}
use Rattle.engine.proofs.wiring.clear_wire.Goals as goal

pub returns : goal.returns
returns c =
    let zeros : c.fill.new.self ≡ replicate 65 0 = search rules in
    put_mid-paste _ _ _ _ _ _ zeros (omega arith) refl
