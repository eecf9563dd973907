use mathlib.Core.Path.{refl, ap, ◌∙◌}
use Prim.Native.Nat.{◌+◌, ◌*◌, ◌<◌}
use native.Mathlib.Omega.{arith}
use borrow.Author.Count.{below_none, below_more}
use lib.ListN.{length, length-set}
use lib.Seq.{get_or-set_same}
use Rattle.std.proofs.Math.ListN.{get_or-map}
use Rattle.std.proofs.lemmas.List.{length-map}
use Rattle.hume.specs.Image.{program, ruleset_at, order_at}
use Rattle.gate.specs.Parts.{in_image, in_order, start_at}
use Rattle.gate.proofs.Rulesets.{ruleset_next, count_is, order_next}
use Rattle.gate.proofs.Starts.{start_more}
use Rattle.gate.specs.declared.image.Start.{Start}
use Rattle.gate.proofs.layout.Goals as goal

pub loop-k-init : goal.loop-k-init
unfolding ruleset_at order_at
loop-k-init c =
    record {
      long = refl;
      begins = below_more _ 0 (below_none _) refl;
      ordered = below_more _ 0 (below_none _) refl;
      image_low = omega arith;
      order_low = omega arith;
    }

pub loop-k-preserved : goal.loop-k-preserved
loop-k-preserved c =
    let m = c.args.image.now in
    let k = c.loop-k.k in
    let old = c.loop-k.invariant in
    let start = start_at c.loop-k.starts k in
    let n = c.byte_at-count.result in
    let within : k + 1 < length c.loop-k.starts = omega (arith, c.loop-k-test.true, old.long) in
    let next : Start = record { image = start.image + 3 + 2 * n; order = start.order + n } in
    let here = old.begins k (omega arith) in
    let last = get_or-set_same c.loop-k.starts (k + 1) next (record { image = 0; order = 0 }) within in
    record {
      long = length-set c.loop-k.starts (k + 1) next ∙ old.long;
      begins = start_more _ c.loop-k.starts k next in_image (ruleset_at m) within old.begins
          (omega (arith, ruleset_next m k start.image n here c.byte_at-count.ensures.is));
      ordered = start_more _ c.loop-k.starts k next in_order (order_at (program m)) within old.ordered
          (order_next m k start.order n (old.ordered k (omega arith)) (count_is m k start.image n here c.byte_at-count.ensures.is));
      image_low = omega (arith, ap in_image last, old.image_low, c.byte_at-count.ensures.small);
      order_low = omega (arith, ap in_order last, old.order_low, c.byte_at-count.ensures.small);
    }

pub returns : goal.returns
returns c =
    let i = c.loop-k.invariant in
    let s = c.loop-k.starts in
    record {
      at_length = length-map s in_image ∙ i.long;
      order_length = length-map s in_order ∙ i.long;
      begins = λ k h. get_or-map in_image s k (record { image = 0; order = 0 }) ∙ i.begins k (omega (arith, c.loop-k-test.false));
      ordered = λ k h. get_or-map in_order s k (record { image = 0; order = 0 }) ∙ i.ordered k (omega (arith, c.loop-k-test.false));
    }
