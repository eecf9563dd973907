-- The line that is written, for all of standard input. No contract can say that the bytes that `read` put into the buffer are the
-- input's first; where they are, the line is the definition's.
use mathlib.Core.Path.{◌≡◌, sym, ap, ◌∙◌, subst}
use Rattle.std.specs.Prelude.{◌≢◌}
use mathlib.Core.List.{List, ◌++◌}
use Prim.Native.Nat.{ℕ, ◌≤◌}
use native.Mathlib.Omega.{arith}
use lib.ListN.{length, take, drop, take-append-drop}
use lib.Seq.{length-take-le, take_all}
use Rattle.hume.specs.Sheet.{printed}
use Rattle.sheet.specs.Needed.{Refused}
use Rattle.sheet.proofs.Enough.{printed_enough, printed_cut}
use Rattle.ham.specs.Read.{Replied}
use Rattle.ham.specs.declared.End.TheVariants.{Full}
use Rattle.ham.specs.declared.Reply.{Reply}

module _ (input before line : List ℕ) (r : Reply) (p : Replied input before line r) where
  -- a read that fails, or an input that ends too early, never gives figures
  pub cut_refused : r.got.end ≢ Full → Refused (drop r.start line)
  cut_refused e =
      let l = length-take-le r.got.count input p.read.within in
      subst Refused (sym p.text.is) (printed_cut (take r.got.count input) (omega (arith, l, p.read.cut e)))

  -- `all` is standard input, of which the bytes in the buffer are the first
  module _ (all : List ℕ) (first : take r.got.count input ≡ take r.got.count all) where
    -- the program read all that it needs
    pub whole_right : r.got.end ≡ Full → drop r.start line ≡ printed all
    whole_right e =
        let n = r.got.count in
        let l = length-take-le n input p.read.within in
        p.text.is
        ∙ sym (printed_enough (take n input) (drop n all) (omega (arith, l, p.read.enough e)))
        ∙ ap (λ (t : List ℕ). printed (t ++ drop n all)) first
        ∙ ap printed (take-append-drop n all)

    -- or the input ended
    pub ended_right : length all ≤ r.got.count → drop r.start line ≡ printed all
    ended_right h = p.text.is ∙ ap printed (first ∙ take_all r.got.count all h)
