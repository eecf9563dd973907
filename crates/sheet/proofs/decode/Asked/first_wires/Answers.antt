use Rattle.std.proofs.Common.{ℕ, sym, arith}
use Rattle.std.proofs.lemmas.List.{length-take, length-drop}
use lib.ListN.{length-append}
use lib.Seq.{length-take-le}
use Rattle.sheet.proofs.Decoding.{inputs_most, outputs_most, wires_given}
use Rattle.sheet.proofs.decode.Asked.first_wires.Goals as goal

pub slice_bounds-words-end : goal.slice_bounds-words-end
slice_bounds-words-end c = omega (arith, inputs_most _ c.args.self.now.accepted)

pub slice_bounds-words-end-2 : goal.slice_bounds-words-end-2
slice_bounds-words-end-2 c = sym (length-take-le _ _ (omega (arith, inputs_most _ c.args.self.now.accepted)))

pub words-requires : goal.words-requires
words-requires c = omega (arith, inputs_most _ c.args.self.now.accepted, length-take {A = ℕ})

pub slice_bounds-fill-end : goal.slice_bounds-fill-end
slice_bounds-fill-end c =
    omega (arith, inputs_most _ c.args.self.now.accepted, outputs_most _ c.args.self.now.accepted, length-append {A = ℕ}, length-take {A = ℕ}, length-drop {A = ℕ})

pub returns : goal.returns
returns c =
    let i = inputs_most _ c.args.self.now.accepted in
    let o = outputs_most _ c.args.self.now.accepted in
    (omega (arith, i, o), wires_given _ _ c.args.wires.now _ _ _ _ _ c.byte_at-inputs.ensures.is c.byte_at.ensures.is (omega arith) (omega (arith, i, o)) c.words.ensures (c.fill.ensures.after (λ y q. q)))
