-- Lists that are filled from the front: a sheet's words, and the first order.
use mathlib.Core.Path.{◌≡◌, refl, sym, ap, ◌∙◌}
use mathlib.Core.List.{List, [], ◌∷◌, ◌++◌}
use Prim.Native.Nat.{ℕ, zero, suc, ◌+◌, ◌*◌, ◌≤◌, ◌<◌}
use native.Mathlib.Numerals.{add-one}
use native.Mathlib.Omega.{arith}
use lib.ListN.{length, get_or, take, drop, replicate, length-drop, length-append, length-replicate}
use Rattle.std.proofs.lemmas.List.{length-take}
use borrow.Rule.Slice.PartMut.{post_of, put_mid}
use lib.Seq.{length-take-le, take_at, take-append-add}
use Rattle.hume.specs.Image.{Program, program, byte}
use Rattle.hume.specs.Refusals.{image_refusal}
use Rattle.hume.specs.Sheet.{sheet_word, sheet_words, counting, first_order}
use Rattle.laws.specs.Accepted.{Accepted}
use Rattle.laws.proofs.Passed.{image_passed}
use Rattle.laws.proofs.Accepted.{accepted}

-- ---- the words of a sheet

pub words_length : (s : List ℕ) (i n : ℕ) → length (sheet_words s i n) ≡ n
unfolding sheet_words
words_length s i zero = refl
words_length s i (suc n) = ap suc (words_length s (i + 1) n)

-- as many words as there is room for, each in its place
pub words_written : (s out : List ℕ) (from : ℕ)
    → ((k : ℕ) → k < length out → get_or out k 0 ≡ sheet_word s (from + k))
    → out ≡ sheet_words s from (length out)
unfolding sheet_words
words_written s [] from h = refl
words_written s (x ∷ out) from h =
    let e : from + 0 ≡ from = omega arith in
    let here : x ≡ sheet_word s from = h 0 (omega arith) ∙ ap (λ (i : ℕ). sheet_word s i) e in
    let there : (k : ℕ) → k < length out → get_or out k 0 ≡ sheet_word s (from + 1 + k) =
    λ k q. let n : from + suc k ≡ from + 1 + k = omega arith in h (suc k) (omega (arith, q)) ∙ ap (λ (i : ℕ). sheet_word s i) n in
    λ j. here j ∷ words_written s out (from + 1) there j

-- ---- the first order

pub counting_length : (i n : ℕ) → length (counting i n) ≡ n
unfolding counting
counting_length i zero = refl
counting_length i (suc n) = ap suc (counting_length (i + 1) n)

-- numbers that count up, each in its place
pub counting_written : (order : List ℕ) (i : ℕ) → ((k : ℕ) → k < length order → get_or order k 0 ≡ i + k)
    → order ≡ counting i (length order)
unfolding counting
counting_written [] i h = refl
counting_written (x ∷ order) i h =
    let here : x ≡ i = h 0 (omega arith) ∙ (omega arith) in
    let there : (k : ℕ) → k < length order → get_or order k 0 ≡ i + 1 + k =
    λ k q. let n : i + suc k ≡ i + 1 + k = omega arith in h (suc k) (omega (arith, q)) ∙ n in
    λ j. here j ∷ counting_written order (i + 1) there j

pub order_next : (P : Program) (r n : ℕ) → n ≡ P.count r → first_order P r ++ counting 0 n ≡ first_order P (r + 1)
unfolding first_order
order_next P r n e =
    ap (λ (k : ℕ). first_order P r ++ counting 0 k) e ∙ ap (λ (k : ℕ). first_order P k) (sym (add-one r))

-- "rulesets R (1..32)", "rule count (1 byte, 1..16)"
module _ (image : List ℕ) (good : image_refusal image ≡ 0) where
  pub fits : Accepted (program image)
  fits =
      let p = image_passed image good in
      accepted image (program image) p.counts p.code

  pub inputs_most : byte image 5 ≤ 8
  unfolding program
  inputs_most = fits.inputs

  pub outputs_most : byte image 6 ≤ 8
  unfolding program
  outputs_most = fits.outputs

  pub rulesets_most : byte image 7 ≤ 32
  unfolding program
  rulesets_most = fits.rulesets

  pub rules_most : (r : ℕ) → r < byte image 7 → (program image).count r ≤ 16
  unfolding program
  rules_most r h = fits.rules r h

-- one ruleset more, in the rest of the order that is lent for it
take_both : (xs ys zs : List ℕ) (a b : ℕ) → length xs ≡ a → length ys ≡ b → take (a + b) (xs ++ (ys ++ zs)) ≡ xs ++ ys
take_both xs ys zs a b e f =
    ap (λ (n : ℕ). take (n + b) (xs ++ (ys ++ zs))) (sym e)
    ∙ take-append-add xs (ys ++ zs) b
    ∙ ap (λ (t : List ℕ). xs ++ t) (take_at ys zs b f)

pub order_part : (order last : List ℕ) (done w n : ℕ) → done + n ≤ length order → w ≡ n
    → last ≡ counting 0 (length (take w (drop done order)))
    → take (done + n) (put_mid done w order last) ≡ take done order ++ counting 0 n
order_part order last done w n h e l =
    let long : length (take w (drop done order)) ≡ n = omega (arith, length-take {A = ℕ}, length-drop {A = ℕ}) in
    ap (λ (t : List ℕ). take (done + n) (put_mid done w order t)) (l ∙ ap (λ (k : ℕ). counting 0 k) long)
    ∙ take_both (take done order) (counting 0 n) (post_of done w order) done n (length-take-le done order (omega (arith, h))) (counting_length 0 n)

-- the wires: what the sheet has in front, and in what is lent behind it nothing
module _ (image sheet wires inputs outputs : List ℕ) (i o w : ℕ) (ei : i ≡ byte image 5) (eo : o ≡ byte image 6) (ew : w ≡ 65 * o)
    (long : 65 * i + 65 * o ≤ length wires) where
  pub wires_given : inputs ≡ sheet_words sheet 45 (length (take (65 * i) wires))
      → outputs ≡ replicate (length (take w (drop (65 * i) (inputs ++ drop (65 * i) wires)))) 0
      → take (65 * i + 65 * o) (put_mid (65 * i) w (inputs ++ drop (65 * i) wires) outputs)
      ≡ sheet_words sheet 45 (65 * (program image).inputs) ++ replicate (65 * (program image).outputs) 0
  unfolding program
  wires_given ein eout =
      let lent : length (take (65 * i) wires) ≡ 65 * i = length-take-le (65 * i) wires (omega (arith, long)) in
      let ins : inputs ≡ sheet_words sheet 45 (65 * i) = ein ∙ ap (λ (n : ℕ). sheet_words sheet 45 n) lent in
      let n : length inputs ≡ 65 * i = ap length ins ∙ words_length sheet 45 (65 * i) in
      let rest : length (take w (drop (65 * i) (inputs ++ drop (65 * i) wires))) ≡ 65 * o =
      omega (arith, length-take {A = ℕ}, length-drop {A = ℕ}, length-append {A = ℕ}, n, long, ew) in
      let outs : outputs ≡ replicate (65 * o) 0 = eout ∙ ap (λ (k : ℕ). replicate k 0) rest in
      let both = inputs ++ drop (65 * i) wires in
      ap (λ (t : List ℕ). take (65 * i + 65 * o) (t ++ (outputs ++ post_of (65 * i) w both))) (take_at inputs (drop (65 * i) wires) (65 * i) n)
      ∙ take_both inputs outputs (post_of (65 * i) w both) (65 * i) (65 * o) n (ap length outs ∙ length-replicate (65 * o) 0)
      ∙ (λ j. ins j ++ outs j)
      ∙ ap (λ (k : ℕ). sheet_words sheet 45 (65 * k) ++ replicate (65 * o) 0) ei
      ∙ ap (λ (k : ℕ). sheet_words sheet 45 (65 * byte image 5) ++ replicate (65 * k) 0) eo
