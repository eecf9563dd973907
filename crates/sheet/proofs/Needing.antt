-- A sheet's length and version, and how much is needed, test after test.
use mathlib.Core.Path.{◌≡◌}
use mathlib.Core.List.{List}
use Prim.Native.Nat.{ℕ, ◌+◌, ◌≤◌, ◌<◌}
use native.Mathlib.Omega.{arith}
use borrow.Author.Tests.{le-ltb, lt-ltb, eq-eqb, ne_eqb}
use lib.ListN.{length}
use Rattle.hume.specs.Tests.{pick}
use Rattle.hume.specs.Image.{program, full}
use Rattle.hume.specs.Refusals.{image_refusal}
use Rattle.hume.specs.Sheet.{image_read, sheet_read, sheet_word, sheet_length}
use Rattle.laws.proofs.Passed.{image_passed}
use Rattle.laws.proofs.Accepted.{accepted}
use Rattle.sheet.specs.Needed.{needed, sheet_needed}

-- an accepted image has at most 8 inputs
pub length_most : (image : List ℕ) → image_refusal image ≡ 0 → sheet_length (program image) ≤ 2260
unfolding sheet_length
length_most image e =
    let p = image_passed image e in
    omega (arith, (accepted image (program image) p.counts p.code).inputs)

pub length_least : (image : List ℕ) → 180 ≤ sheet_length (program image)
unfolding sheet_length
length_least image = omega arith

-- ---- of the sheet

module _ (image sheet : List ℕ) where
  pub none_needed : (image_refusal image ≡ 0 → ⊥) → 0 ≡ sheet_needed image sheet
  unfolding sheet_needed pick
  none_needed h = rw (ne_eqb (image_refusal image) 0 h)

  module _ (good : image_refusal image ≡ 0) where
    pub word_needed : length sheet < 4 → 4 ≡ sheet_needed image sheet
    unfolding sheet_needed pick
    word_needed h = rw (eq-eqb (image_refusal image) 0 good, lt-ltb (length sheet) 4 h)

    module _ (h : 4 ≤ length sheet) where
      pub no_more : (sheet_word sheet 0 ≡ sheet_length (program image) → ⊥) → 4 ≡ sheet_needed image sheet
      unfolding sheet_needed pick
      no_more d =
          rw (
            eq-eqb (image_refusal image) 0 good,
            le-ltb (length sheet) 4 h,
            ne_eqb (sheet_word sheet 0) (sheet_length (program image)) d,
          )

      pub all_needed : sheet_word sheet 0 ≡ sheet_length (program image)
          → sheet_length (program image) ≡ sheet_needed image sheet
      unfolding sheet_needed pick
      all_needed s =
          rw (
            eq-eqb (image_refusal image) 0 good,
            le-ltb (length sheet) 4 h,
            eq-eqb (sheet_word sheet 0) (sheet_length (program image)) s,
          )

-- ---- of the whole input

module _ (bytes : List ℕ) where
  pub opening_needed : length bytes < 4 → 4 ≡ needed bytes
  unfolding needed pick
  opening_needed h = rw (lt-ltb (length bytes) 4 h)

  module _ (h : 4 ≤ length bytes) where
    pub huge_needed : 33899 < full bytes 0 → 4 ≡ needed bytes
    unfolding needed pick
    huge_needed k = rw (le-ltb (length bytes) 4 h, lt-ltb 33899 (full bytes 0) k)

    module _ (k : full bytes 0 ≤ 33899) where
      pub image_needed : length bytes < full bytes 0 → full bytes 0 ≡ needed bytes
      unfolding needed pick
      image_needed s =
          rw (le-ltb (length bytes) 4 h, le-ltb 33899 (full bytes 0) k, lt-ltb (length bytes) (full bytes 0) s)

      pub sheet_needed_lem : full bytes 0 ≤ length bytes
          → full bytes 0 + sheet_needed (image_read bytes) (sheet_read bytes) ≡ needed bytes
      unfolding needed pick
      sheet_needed_lem s =
          rw (le-ltb (length bytes) 4 h, le-ltb 33899 (full bytes 0) k, le-ltb (length bytes) (full bytes 0) s)
