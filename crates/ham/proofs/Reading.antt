-- Bytes that were read behind others: what was asked for before stays so, and what they themselves were asked by.
use mathlib.Core.Path.{◌≡◌, sym, ap, ◌∙◌}
use mathlib.Core.List.{List, ◌++◌}
use Prim.Native.Nat.{ℕ, ◌+◌, ◌-◌, ◌≤◌, ◌<◌}
use native.Mathlib.Decide.{dec_le}
use native.Mathlib.Omega.{arith}
use borrow.Rule.Slice.PartMut.{post_of, put_mid}
use lib.ListN.{length, take, length-append}
use lib.Seq.{length-take-le, take-append-le, take-append-add, take-take}
use Rattle.sheet.specs.Needed.{needed}
use Rattle.sheet.proofs.Enough.{needed_kept}

-- the buffer with `last` in the place of the w bytes from `done` on
module _ (input last : List ℕ) (done w : ℕ) (within : done ≤ length input) where
  before : (k : ℕ) → k ≤ done → take k (put_mid done w input last) ≡ take k input
  before k h =
      let l = length-take-le done input within in
      take-append-le k (take done input) (last ++ post_of done w input) (omega (arith, h, l)) ∙ take-take k done input h

  pub behind : (n : ℕ) → n ≤ length last → take (done + n) (put_mid done w input last) ≡ take done input ++ take n last
  behind n h =
      ap (λ (k : ℕ). take (k + n) (put_mid done w input last)) (sym (length-take-le done input within))
      ∙ take-append-add (take done input) (last ++ post_of done w input) n
      ∙ ap (λ (t : List ℕ). take done input ++ t) (take-append-le n last (post_of done w input) h)

  module _ (upto : ℕ) (e : upto ≡ needed (take done input)) where
    -- so many more, and fewer than were asked for: as much is needed as before
    pub still : (n : ℕ) → n ≤ length last → done + n < upto → needed (take (done + n) (put_mid done w input last)) ≡ upto
    still n h k =
        let a = length-append (take done input) (take n last) in
        let l = length-take-le done input within in
        let m = length-take-le n last h in
        ap needed (behind n h) ∙ needed_kept (take done input) (take n last) (omega (arith, a, l, m, k, e)) ∙ sym e

    pub all_asked : ((k : ℕ) → k < done → k < needed (take k input)) → (n : ℕ) → n ≤ length last → done + n ≤ upto
        → (k : ℕ) → k < done + n → k < needed (take k (put_mid done w input last))
    all_asked old n h u k s = by (dec_le done k)
      where
        by : Dec (done ≤ k) → k < needed (take k (put_mid done w input last))
        by (yes q) =
            let z : done + (k - done) ≡ k = omega arith in
            let p =
            ap (λ (i : ℕ). needed (take i (put_mid done w input last))) (sym z) ∙ still (k - done) (omega (arith, h, s, q)) (omega (arith, z, s, u)) in
            omega (arith, p, s, u)
        by (no q) =
            let b : k < done = omega (arith, q) in
            let p = ap needed (before k (omega (arith, b))) in
            omega (arith, p, old k b)
