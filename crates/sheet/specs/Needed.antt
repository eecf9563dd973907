-- How much of the input is to be read: "Bytes after it aren't read."
use Rattle.std.specs.Prelude.{◌≡◌, List, ℕ, ◌+◌, ltb, eqb, length}
use Rattle.hume.specs.Tests.{pick}
use Rattle.hume.specs.Image.{program, full}
use Rattle.hume.specs.Refusals.{image_refusal}
use Rattle.hume.specs.Sheet.{image_read, sheet_read, sheet_word, sheet_length, refused_line}

-- of the run sheet, as far as its bytes so far tell: nothing where the image is refused; its length word; and, where that is right,
-- all of it
unfoldable pub sheet_needed : List ℕ → List ℕ → ℕ
sheet_needed image sheet =
    pick (eqb (image_refusal image) 0)
    (pick (ltb (length sheet) 4) 4
    (pick (eqb (sheet_word sheet 0) (sheet_length (program image))) (sheet_length (program image)) 4))
    0

-- of the whole input, as far as its bytes so far tell: the image's length word; where that is not over 33,899, the image; and then of the
-- run sheet
unfoldable pub needed : List ℕ → ℕ
needed bytes =
    pick (ltb (length bytes) 4) 4
    (pick (ltb 33899 (full bytes 0)) 4
    (pick (ltb (length bytes) (full bytes 0)) (full bytes 0)
    (full bytes 0 + sheet_needed (image_read bytes) (sheet_read bytes))))

-- "1 if .. the input ends first", "9 | run sheet length": what is printed where less was read than is needed
pub data Refused (text : List ℕ) : Type 0 where
  no_image : text ≡ refused_line 1 → Refused text
  no_sheet : text ≡ refused_line 9 → Refused text
