-- "Bytes after it aren't read": once as many bytes have been read as are needed, whatever comes after them changes nothing of what is
-- printed. And an input that ends before is refused.
use mathlib.Core.Path.{◌≡◌, refl, sym, ap, ◌∙◌}
use mathlib.Core.Bool.{Bool, true, false, ◌&&◌}
use mathlib.Core.List.{List, ◌∷◌, ◌++◌}
use Prim.Native.Nat.{ℕ, zero, suc, ◌+◌, ◌*◌, ◌≤◌, ◌<◌}
use native.Mathlib.Omega.{arith}
use borrow.Author.Tests.{le-leb, lt-leb, ne_eqb, ltb-true, ltb-false, eqb-true, eqb-false}
use lib.Dec.{leb, ltb, eqb}
use lib.ListN.{length, get_or, take, drop, length-append, length-drop, get_or-append}
use lib.Seq.{take-append-le, drop-append-le}
use Rattle.hume.specs.Image.{program, byte, half, full}
use Rattle.hume.specs.Refusals.{image_refusal}
use Rattle.hume.specs.Call.{Given, figures_of, outcome}
use Rattle.hume.specs.Sheet.{image_read, sheet_read, sheet_word, sheet_words, sheet_length, sheet_ok, sheet_given, sheet_refusal, parts_refusal, figures_line, refused_line, printed_by, printed}
use Rattle.laws.proofs.Tests.{Tested, passes, misses, tested}
use Rattle.gate.proofs.Tests.{and_no}
use Rattle.sheet.specs.Needed.{needed, sheet_needed, Refused, no_image, no_sheet}
use Rattle.sheet.proofs.Needing.{length_least, none_needed, word_needed, no_more, all_needed, opening_needed, huge_needed, image_needed, sheet_needed_lem}
use Rattle.sheet.proofs.Deciding.{too_long, readable, no_length, cut_short, image_refused, sheet_refused}

-- ---- words that lie before the bytes after

full_append : (m rest : List ℕ) (i : ℕ) → i + 4 ≤ length m → full (m ++ rest) i ≡ full m i
unfolding full half byte
full_append m rest i h =
    let at = get_or-append m rest 0 in
    let a : get_or (m ++ rest) i 0 ≡ get_or m i 0 = at i (omega arith) in
    let b : get_or (m ++ rest) (i + 1) 0 ≡ get_or m (i + 1) 0 = at (i + 1) (omega arith) in
    let c : get_or (m ++ rest) (i + 2) 0 ≡ get_or m (i + 2) 0 = at (i + 2) (omega arith) in
    let d : get_or (m ++ rest) (i + 2 + 1) 0 ≡ get_or m (i + 2 + 1) 0 = at (i + 2 + 1) (omega arith) in
    omega arith

word_append : (s rest : List ℕ) (i : ℕ) → 4 * (i + 1) ≤ length s → sheet_word (s ++ rest) i ≡ sheet_word s i
unfolding sheet_word
word_append s rest i h = full_append s rest (4 * i) (omega arith)

words_append : (s rest : List ℕ) (i n : ℕ) → 4 * (i + n) ≤ length s → sheet_words (s ++ rest) i n ≡ sheet_words s i n
unfolding sheet_words
words_append s rest i zero h = refl
words_append s rest i (suc n) h =
    let e = word_append s rest i (omega arith) in
    let f = words_append s rest (i + 1) n (omega arith) in
    λ j. e j ∷ f j

-- ---- a sheet

module _ (image sheet rest : List ℕ) where
  given_append : sheet_length (program image) ≤ length sheet → sheet_given image (sheet ++ rest) ≡ sheet_given image sheet
  unfolding sheet_given sheet_length
  given_append h =
      rw (
        words_append sheet rest 5 40 (omega arith),
        word_append sheet rest 2 (omega arith),
        word_append sheet rest 3 (omega arith),
        word_append sheet rest 4 (omega arith),
        words_append sheet rest 45 (65 * (program image).inputs) (omega arith),
      )

-- what a sheet's bytes matter for
module _ (image s t : List ℕ) (g : sheet_given image s ≡ sheet_given image t) where
  printed_same : (n : ℕ) → printed_by n image s ≡ printed_by n image t
  unfolding printed_by
  printed_same zero = ap (λ (x : Given). figures_line (figures_of (outcome x))) g
  printed_same (suc n) = refl

  parts_same : sheet_ok (program image) s ≡ sheet_ok (program image) t
      → printed_by (parts_refusal image s) image s ≡ printed_by (parts_refusal image t) image t
  unfolding parts_refusal sheet_refusal
  parts_same e =
      let p : parts_refusal image s ≡ parts_refusal image t = rw (e, g) in
      ap (λ (n : ℕ). printed_by n image s) p ∙ printed_same (parts_refusal image t)

no_second : (a b c : Bool) → b ≡ false → (a && (b && c)) ≡ false
no_second true b c e = and_no b c e
no_second false b c e = refl

module _ (image sheet : List ℕ) where
  wrong_length : (sheet_word sheet 0 ≡ sheet_length (program image) → ⊥) → sheet_ok (program image) sheet ≡ false
  unfolding sheet_ok
  wrong_length d =
      let L = sheet_length (program image) in
      no_second (leb L (length sheet)) (eqb (sheet_word sheet 0) L) (eqb (sheet_word sheet 1) 1) (ne_eqb (sheet_word sheet 0) L d)

  not_whole : length sheet < sheet_length (program image) → sheet_ok (program image) sheet ≡ false
  unfolding sheet_ok
  not_whole h = and_no _ _ (lt-leb (sheet_length (program image)) (length sheet) h)

-- how much is needed of a sheet, case by case
data Stage (image sheet : List ℕ) : Type 0 where
  turned : (image_refusal image ≡ 0 → ⊥) → Stage image sheet
  unknown : image_refusal image ≡ 0 → length sheet < 4 → Stage image sheet
  wrong : image_refusal image ≡ 0 → 4 ≤ length sheet → (sheet_word sheet 0 ≡ sheet_length (program image) → ⊥) → Stage image sheet
  right : image_refusal image ≡ 0 → 4 ≤ length sheet → sheet_word sheet 0 ≡ sheet_length (program image) → Stage image sheet

module _ (image sheet : List ℕ) where
  stage3 : image_refusal image ≡ 0 → 4 ≤ length sheet → Tested (eqb (sheet_word sheet 0) (sheet_length (program image)))
      → Stage image sheet
  stage3 e h (passes q) = right e h (eqb-true (sheet_word sheet 0) (sheet_length (program image)) q)
  stage3 e h (misses q) = wrong e h (eqb-false (sheet_word sheet 0) (sheet_length (program image)) q)

  stage2 : image_refusal image ≡ 0 → Tested (ltb (length sheet) 4) → Stage image sheet
  stage2 e (passes q) = unknown e (ltb-true (length sheet) 4 q)
  stage2 e (misses q) = stage3 e (ltb-false (length sheet) 4 q) (tested _)

  stage1 : Tested (eqb (image_refusal image) 0) → Stage image sheet
  stage1 (passes q) = stage2 (eqb-true (image_refusal image) 0 q) (tested _)
  stage1 (misses q) = turned (eqb-false (image_refusal image) 0 q)

  stage : Stage image sheet
  stage = stage1 (tested _)

module _ (image sheet rest : List ℕ) where
  right_append : 4 ≤ length sheet → sheet_length (program image) ≤ length sheet
      → sheet_ok (program image) (sheet ++ rest) ≡ sheet_ok (program image) sheet
  unfolding sheet_ok
  right_append h k =
      let L = sheet_length (program image) in
      let a : leb L (length (sheet ++ rest)) ≡ leb L (length sheet) =
      le-leb L (length (sheet ++ rest)) (omega (arith, length-append sheet rest, k)) ∙ sym (le-leb L (length sheet) k) in
      let l = length_least image in
      rw (a, word_append sheet rest 0 (omega arith), word_append sheet rest 1 (omega (arith, l, k)))

  parts_enough : Stage image sheet → sheet_needed image sheet ≤ length sheet
      → printed_by (parts_refusal image (sheet ++ rest)) image (sheet ++ rest)
      ≡ printed_by (parts_refusal image sheet) image sheet
  parts_enough (turned h) k =
      sym (image_refused image (sheet ++ rest) (image_refusal image) refl h)
      ∙ image_refused image sheet (image_refusal image) refl h
  parts_enough (unknown e h) k = absurd (omega (arith, h, word_needed image sheet e h, k))
  parts_enough (wrong e h d) k =
      let w = word_append sheet rest 0 (omega arith) in
      sym (sheet_refused image (sheet ++ rest) e (wrong_length image (sheet ++ rest) (λ q. d (sym w ∙ q))))
      ∙ sheet_refused image sheet e (wrong_length image sheet d)
  parts_enough (right e h s) k =
      let w : sheet_length (program image) ≤ length sheet = omega (arith, all_needed image sheet e h s, k) in
      parts_same image (sheet ++ rest) sheet (given_append image sheet rest w) (right_append h w)

parts_cut : (image sheet : List ℕ) → Stage image sheet → length sheet < sheet_needed image sheet
    → refused_line 9 ≡ printed_by (parts_refusal image sheet) image sheet
parts_cut image sheet (turned h) k = absurd (omega (arith, none_needed image sheet h, k))
parts_cut image sheet (unknown e h) k =
    sheet_refused image sheet e (not_whole image sheet (omega (arith, h, length_least image)))
parts_cut image sheet (wrong e h d) k = absurd (omega (arith, h, no_more image sheet e h d, k))
parts_cut image sheet (right e h s) k =
    sheet_refused image sheet e (not_whole image sheet (omega (arith, all_needed image sheet e h s, k)))

-- ---- the whole input

data Stop (bytes : List ℕ) : Type 0 where
  opening : length bytes < 4 → Stop bytes
  huge : 4 ≤ length bytes → 33899 < full bytes 0 → Stop bytes
  amid : 4 ≤ length bytes → full bytes 0 ≤ 33899 → length bytes < full bytes 0 → Stop bytes
  beyond : 4 ≤ length bytes → full bytes 0 ≤ 33899 → full bytes 0 ≤ length bytes → Stop bytes

module _ (bytes : List ℕ) where
  stop3 : 4 ≤ length bytes → full bytes 0 ≤ 33899 → Tested (ltb (length bytes) (full bytes 0)) → Stop bytes
  stop3 h k (passes q) = amid h k (ltb-true (length bytes) (full bytes 0) q)
  stop3 h k (misses q) = beyond h k (ltb-false (length bytes) (full bytes 0) q)

  stop2 : 4 ≤ length bytes → Tested (ltb 33899 (full bytes 0)) → Stop bytes
  stop2 h (passes q) = huge h (ltb-true 33899 (full bytes 0) q)
  stop2 h (misses q) = stop3 h (ltb-false 33899 (full bytes 0) q) (tested _)

  stop1 : Tested (ltb (length bytes) 4) → Stop bytes
  stop1 (passes q) = opening (ltb-true (length bytes) 4 q)
  stop1 (misses q) = stop2 (ltb-false (length bytes) 4 q) (tested _)

  stop : Stop bytes
  stop = stop1 (tested _)

enough_by : (bytes rest : List ℕ) → Stop bytes → needed bytes ≤ length bytes → printed (bytes ++ rest) ≡ printed bytes
unfolding image_read sheet_read
enough_by bytes rest (opening h) k = absurd (omega (arith, h, opening_needed bytes h, k))
enough_by bytes rest (huge h l) k =
    let f : full (bytes ++ rest) 0 ≡ full bytes 0 = full_append bytes rest 0 h in
    sym (too_long (bytes ++ rest) (omega (arith, h, length-append bytes rest)) (omega (arith, f, l))) ∙ too_long bytes h l
enough_by bytes rest (amid h l s) k = absurd (omega (arith, s, image_needed bytes h l s, k))
enough_by bytes rest (beyond h l s) k =
    let f : full (bytes ++ rest) 0 ≡ full bytes 0 = full_append bytes rest 0 h in
    let m = full bytes 0 in
    let i : image_read (bytes ++ rest) ≡ image_read bytes =
    ap (λ (k : ℕ). take k (bytes ++ rest)) f ∙ take-append-le m bytes rest s in
    let j : sheet_read (bytes ++ rest) ≡ sheet_read bytes ++ rest =
    ap (λ (k : ℕ). drop k (bytes ++ rest)) f ∙ drop-append-le m bytes rest s in
    let w : sheet_needed (image_read bytes) (sheet_read bytes) ≤ length (sheet_read bytes) =
    omega (arith, sheet_needed_lem bytes h l s, k, length-drop m bytes) in
    sym
    (readable (bytes ++ rest) (omega (arith, h, length-append bytes rest)) (omega (arith, f, l))
    (omega (arith, f, s, length-append bytes rest)))
    ∙ (λ q. printed_by (parts_refusal (i q) (j q)) (i q) (j q))
    ∙ parts_enough (image_read bytes) (sheet_read bytes) rest (stage (image_read bytes) (sheet_read bytes)) w
    ∙ readable bytes h l s

-- the bytes read are enough: whatever else stands in the input, the same is printed
pub printed_enough : (bytes rest : List ℕ) → needed bytes ≤ length bytes → printed (bytes ++ rest) ≡ printed bytes
printed_enough bytes rest k = enough_by bytes rest (stop bytes) k

cut_by : (bytes : List ℕ) → Stop bytes → length bytes < needed bytes → Refused (printed bytes)
unfolding sheet_read
cut_by bytes (opening h) k = no_image (sym (no_length bytes h))
cut_by bytes (huge h l) k = absurd (omega (arith, h, huge_needed bytes h l, k))
cut_by bytes (amid h l s) k = no_image (sym (cut_short bytes h l s))
cut_by bytes (beyond h l s) k =
    let w : length (sheet_read bytes) < sheet_needed (image_read bytes) (sheet_read bytes) =
    omega (arith, sheet_needed_lem bytes h l s, k, s, length-drop (full bytes 0) bytes) in
    no_sheet
    (sym
    (parts_cut (image_read bytes) (sheet_read bytes) (stage (image_read bytes) (sheet_read bytes)) w
    ∙ readable bytes h l s))

-- an input that ends before what is needed is refused, and no figures are printed
pub printed_cut : (bytes : List ℕ) → length bytes < needed bytes → Refused (printed bytes)
printed_cut bytes k = cut_by bytes (stop bytes) k

-- ---- what is needed stays so until it is there

sheet_kept : (image sheet more : List ℕ) → Stage image sheet → length (sheet ++ more) < sheet_needed image sheet
    → sheet_needed image (sheet ++ more) ≡ sheet_needed image sheet
sheet_kept image sheet more (turned h) k = absurd (omega (arith, none_needed image sheet h, k))
sheet_kept image sheet more (unknown e h) k =
    let n = word_needed image sheet e h in
    sym (word_needed image (sheet ++ more) e (omega (arith, n, k))) ∙ n
sheet_kept image sheet more (wrong e h d) k =
    absurd (omega (arith, h, no_more image sheet e h d, length-append sheet more, k))
sheet_kept image sheet more (right e h s) k =
    sym
    (all_needed image (sheet ++ more) e (omega (arith, h, length-append sheet more))
    (word_append sheet more 0 (omega arith) ∙ s))
    ∙ all_needed image sheet e h s

kept_by : (bytes more : List ℕ) → Stop bytes → length (bytes ++ more) < needed bytes → needed (bytes ++ more) ≡ needed bytes
unfolding image_read sheet_read
kept_by bytes more (opening h) k =
    let n = opening_needed bytes h in
    sym (opening_needed (bytes ++ more) (omega (arith, n, k))) ∙ n
kept_by bytes more (huge h l) k = absurd (omega (arith, h, huge_needed bytes h l, length-append bytes more, k))
kept_by bytes more (amid h l s) k =
    let f : full (bytes ++ more) 0 ≡ full bytes 0 = full_append bytes more 0 h in
    let n = image_needed bytes h l s in
    sym
    (image_needed (bytes ++ more) (omega (arith, h, length-append bytes more)) (omega (arith, f, l)) (omega (arith, f, n, k)))
    ∙ f
    ∙ n
kept_by bytes more (beyond h l s) k =
    let f : full (bytes ++ more) 0 ≡ full bytes 0 = full_append bytes more 0 h in
    let m = full bytes 0 in
    let i : image_read (bytes ++ more) ≡ image_read bytes =
    ap (λ (k : ℕ). take k (bytes ++ more)) f ∙ take-append-le m bytes more s in
    let j : sheet_read (bytes ++ more) ≡ sheet_read bytes ++ more =
    ap (λ (k : ℕ). drop k (bytes ++ more)) f ∙ drop-append-le m bytes more s in
    let n = sheet_needed_lem bytes h l s in
    let w : length (sheet_read bytes ++ more) < sheet_needed (image_read bytes) (sheet_read bytes) =
    omega (arith, n, k, s, length-append bytes more, length-append (sheet_read bytes) more, length-drop m bytes) in
    sym
    (sheet_needed_lem (bytes ++ more) (omega (arith, h, length-append bytes more)) (omega (arith, f, l))
    (omega (arith, f, s, length-append bytes more)))
    ∙ (λ q. f q + sheet_needed (i q) (j q))
    ∙ ap (λ (x : ℕ). m + x)
    (sheet_kept (image_read bytes) (sheet_read bytes) more (stage (image_read bytes) (sheet_read bytes)) w)
    ∙ n

pub needed_kept : (bytes more : List ℕ) → length (bytes ++ more) < needed bytes → needed (bytes ++ more) ≡ needed bytes
needed_kept bytes more k = kept_by bytes more (stop bytes) k
