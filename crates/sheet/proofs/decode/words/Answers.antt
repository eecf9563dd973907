use Rattle.std.proofs.Common.{◌≡◌, ℕ, length, ap, ◌∙◌, arith}
use Rattle.hume.specs.Sheet.{sheet_words}
use Rattle.sheet.proofs.Decoding.{words_written}
use Rattle.sheet.proofs.decode.words.Goals as goal

pub returns : goal.returns
returns c =
    let n : length c.loop-i.out ≡ length c.args.out.now = omega arith in
    words_written c.args.sheet.now c.loop-i.out c.args.from (λ k h. c.loop-i.invariant k (omega (arith, h)))
    ∙ ap (λ (k : ℕ). sheet_words c.args.sheet.now c.args.from k) n
