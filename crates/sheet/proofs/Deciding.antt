-- What is printed, test after test, in the order in which the code makes them.
use mathlib.Core.Path.{◌≡◌, refl, sym, ap, ◌∙◌}
use mathlib.Core.Bool.{true, false}
use mathlib.Core.List.{List}
use Prim.Native.Nat.{ℕ, zero, suc, ◌≤◌, ◌<◌}
use native.Mathlib.Omega.{arith}
use borrow.Author.Tests.{le-leb, lt-leb}
use lib.ListN.{length}
use Rattle.hume.specs.Image.{program, full}
use Rattle.hume.specs.Refusals.{unless, image_refusal}
use Rattle.hume.specs.Call.{Given, Figures, figures_of, outcome, ran, refused, first_of, lent_refusal, refusal, answer_by, answer}
use Rattle.hume.specs.Sheet.{image_readable, image_read, sheet_read, sheet_ok, sheet_given, sheet_refusal, parts_refusal, program_refusal, figures_line, refused_line, printed_by, printed}
use Rattle.gate.proofs.Tests.{and_yes, and_no}

-- ---- an image that can't be read

unread : (bytes : List ℕ) → image_readable bytes ≡ false → refused_line 1 ≡ printed bytes
unfolding printed program_refusal unless printed_by
unread bytes e = rw e

module _ (bytes : List ℕ) where
  pub no_length : length bytes < 4 → refused_line 1 ≡ printed bytes
  unfolding image_readable
  no_length h = unread bytes (and_no _ _ (lt-leb 4 (length bytes) h))

  module _ (some : 4 ≤ length bytes) where
    pub too_long : 33899 < full bytes 0 → refused_line 1 ≡ printed bytes
    unfolding image_readable
    too_long h =
        unread bytes
        (and_yes _ _ (le-leb 4 (length bytes) some) ∙ and_no _ _ (lt-leb (full bytes 0) 33899 h))

    module _ (most : full bytes 0 ≤ 33899) where
      pub cut_short : length bytes < full bytes 0 → refused_line 1 ≡ printed bytes
      unfolding image_readable
      cut_short h =
          unread bytes
          (and_yes _ _ (le-leb 4 (length bytes) some)
          ∙ and_yes _ _ (le-leb (full bytes 0) 33899 most)
          ∙ lt-leb (full bytes 0) (length bytes) h)

      pub readable : full bytes 0 ≤ length bytes
          → printed_by (parts_refusal (image_read bytes) (sheet_read bytes)) (image_read bytes) (sheet_read bytes) ≡ printed bytes
      unfolding printed program_refusal unless image_readable
      readable h =
          let e : image_readable bytes ≡ true =
          and_yes _ _ (le-leb 4 (length bytes) some)
          ∙ and_yes _ _ (le-leb (full bytes 0) 33899 most)
          ∙ le-leb (full bytes 0) (length bytes) h in
          rw e

-- ---- an image and a sheet

refuses : (n : ℕ) (image sheet : List ℕ) → (n ≡ 0 → ⊥) → refused_line n ≡ printed_by n image sheet
unfolding printed_by
refuses zero image sheet h = absurd (h refl)
refuses (suc n) image sheet h = refl

first_some : (m n : ℕ) → (m ≡ 0 → ⊥) → first_of m n ≡ m
unfolding first_of
first_some zero n h = absurd (h refl)
first_some (suc m) n h = refl

pub image_refused : (image sheet : List ℕ) (n : ℕ) → n ≡ image_refusal image → (n ≡ 0 → ⊥)
    → refused_line n ≡ printed_by (parts_refusal image sheet) image sheet
unfolding parts_refusal
image_refused image sheet n e h =
    let p : first_of (image_refusal image) (sheet_refusal image sheet) ≡ n =
    first_some (image_refusal image) (sheet_refusal image sheet) (λ z. h (e ∙ z)) ∙ sym e in
    refuses n image sheet h ∙ ap (λ (k : ℕ). printed_by k image sheet) (sym p)

-- the refusal of a call's answer is the call's
answered_by : (n : ℕ) (g : Given) → (answer_by n g).refusal ≡ n
unfolding answer_by ran refused
answered_by zero g = refl
answered_by (suc n) g = refl

figured_by : (n : ℕ) (g : Given) → (answer_by n g).refusal ≡ 0 → (answer_by n g).figures ≡ figures_of (outcome g)
unfolding answer_by ran refused
figured_by zero g e = refl
figured_by (suc n) g e = absurd (omega arith)

module _ (image sheet : List ℕ) (good : image_refusal image ≡ 0) where
  sheet_decides : parts_refusal image sheet ≡ sheet_refusal image sheet
  unfolding parts_refusal first_of
  sheet_decides = rw good

  pub sheet_refused : sheet_ok (program image) sheet ≡ false
      → refused_line 9 ≡ printed_by (parts_refusal image sheet) image sheet
  unfolding sheet_refusal unless printed_by
  sheet_refused e = rw (sheet_decides, e)

  module _ (ok : sheet_ok (program image) sheet ≡ true) where
    call_decides : parts_refusal image sheet ≡ (answer (sheet_given image sheet)).refusal
    unfolding sheet_refusal unless answer refusal sheet_given first_of
    call_decides =
        let g = sheet_given image sheet in
        let e : sheet_refusal image sheet ≡ lent_refusal g = rw ok in
        let f : refusal g ≡ lent_refusal g = rw good in
        sheet_decides ∙ e ∙ sym f ∙ sym (answered_by (refusal g) g)

    pub call_refused : (n : ℕ) → n ≡ (answer (sheet_given image sheet)).refusal → (n ≡ 0 → ⊥)
        → refused_line n ≡ printed_by (parts_refusal image sheet) image sheet
    call_refused n e h =
        refuses n image sheet h ∙ ap (λ (k : ℕ). printed_by k image sheet) (e ∙ sym call_decides)

    pub call_figures : (f : Figures) → 0 ≡ (answer (sheet_given image sheet)).refusal
        → f ≡ (answer (sheet_given image sheet)).figures → figures_line f ≡ printed_by (parts_refusal image sheet) image sheet
    unfolding answer printed_by
    call_figures f e h =
        let g = sheet_given image sheet in
        let p : parts_refusal image sheet ≡ 0 = call_decides ∙ sym e in
        let q : f ≡ figures_of (outcome g) = h ∙ figured_by (refusal g) g (sym e) in
        rw (p, q)
