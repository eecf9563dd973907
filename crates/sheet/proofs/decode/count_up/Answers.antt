use Rattle.std.proofs.Common.{◌≡◌, ℕ, length, ap, ◌∙◌, arith}
use Rattle.hume.specs.Sheet.{counting}
use Rattle.sheet.proofs.Decoding.{counting_written}
use Rattle.sheet.proofs.decode.count_up.Goals as goal

pub returns : goal.returns
returns c =
    let n : length c.loop-i.order ≡ length c.args.order.now = omega arith in
    counting_written c.loop-i.order 0 (λ k h. c.loop-i.invariant k (omega (arith, h)) ∙ omega arith)
    ∙ ap (λ (k : ℕ). counting 0 k) n
