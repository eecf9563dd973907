-- The program: from the bytes of standard input to the bytes of standard output.
use Rattle.std.specs.Prelude.{Bool, ◌&&◌, List, [], ◌∷◌, ◌++◌, ℕ, zero, suc, ◌+◌, ◌*◌, ◌/◌, ◌%◌, leb, ltb, eqb, length, take, drop, replicate}
use Rattle.hume.specs.Tests.{pick}
use Rattle.hume.specs.Image.{Program, program, full}
use Rattle.hume.specs.Refusals.{unless, image_refusal}
use Rattle.hume.specs.Call.{Given, Figures, figures_of, outcome, first_of, lent_refusal}

-- "A program reads the image (1 if its length is over 33,899 or the input ends first)"
unfoldable pub image_readable : List ℕ → Bool
image_readable bytes = leb 4 (length bytes) && (leb (full bytes 0) 33899 && leb (full bytes 0) (length bytes))

unfoldable pub image_read : List ℕ → List ℕ
image_read bytes = take (full bytes 0) bytes

-- "and then a run sheet"
unfoldable pub sheet_read : List ℕ → List ℕ
sheet_read bytes = drop (full bytes 0) bytes

-- "length in bytes, itself included, version 1, T, S, H, the 40 card numbers, the input wires, all big-endian 32-bit"
unfoldable pub sheet_word : List ℕ → ℕ → ℕ
sheet_word sheet i = full sheet (4 * i)

unfoldable pub sheet_words : List ℕ → ℕ → ℕ → List ℕ
sheet_words sheet i zero = []
sheet_words sheet i (suc n) = sheet_word sheet i ∷ sheet_words sheet (i + 1) n

unfoldable pub sheet_length : Program → ℕ
sheet_length P = 4 * (45 + 65 * P.inputs)

-- "9 | run sheet length or version". "Bytes after it aren't read."
unfoldable pub sheet_ok : Program → List ℕ → Bool
sheet_ok P sheet =
    leb (sheet_length P) (length sheet) && (eqb (sheet_word sheet 0) (sheet_length P) && eqb (sheet_word sheet 1) 1)

-- "order 0, 1, 2...": n numbers from i on
unfoldable pub counting : ℕ → ℕ → List ℕ
counting i zero = []
counting i (suc n) = i ∷ counting (i + 1) n

unfoldable pub first_order : Program → ℕ → List ℕ
first_order P zero = []
first_order P (suc r) = first_order P r ++ counting 0 (P.count r)

-- the call that the program makes: "Outputs start empty, order 0, 1, 2..."
unfoldable pub sheet_given : List ℕ → List ℕ → Given
sheet_given image sheet =
    record {
      image = image;
      card = sheet_words sheet 5 40;
      limits = record { time = sheet_word sheet 2; stack = sheet_word sheet 3; heap = sheet_word sheet 4 };
      stack = replicate 4096 0;
      heap = replicate 16384 0;
      wires = sheet_words sheet 45 (65 * (program image).inputs) ++ replicate (65 * (program image).outputs) 0;
      order = first_order (program image) (program image).rulesets;
    }

-- "9 .. the program alone tests this, between 4 and 5"
unfoldable pub sheet_refusal : List ℕ → List ℕ → ℕ
sheet_refusal image sheet = unless (sheet_ok (program image) sheet) 9 (lent_refusal (sheet_given image sheet))

unfoldable pub parts_refusal : List ℕ → List ℕ → ℕ
parts_refusal image sheet = first_of (image_refusal image) (sheet_refusal image sheet)

unfoldable pub program_refusal : List ℕ → ℕ
program_refusal bytes = unless (image_readable bytes) 1 (parts_refusal (image_read bytes) (sheet_read bytes))

-- ---- "It prints the eight figures in that order on one line, or `refused N`."

-- the decimal digits of n, of which there are at most f, before the text t
unfoldable pub digits : ℕ → ℕ → List ℕ → List ℕ
digits zero n t = t
digits (suc f) n t = pick (ltb n 10) ((48 + n) ∷ t) (digits f (n / 10) ((48 + n % 10) ∷ t))

-- a figure is below 2^32, so it has at most 10 digits
unfoldable pub decimal : ℕ → List ℕ → List ℕ
decimal n t = digits 10 n t

abbrev pub space : ℕ
space = 32

abbrev pub newline : ℕ
newline = 10

unfoldable pub figures_line : Figures → List ℕ
figures_line f =
    decimal f.ending
    (space
    ∷ decimal f.detail
    (space
    ∷ decimal f.pc
    (space
    ∷ decimal f.steps
    (space
    ∷ decimal f.time
    (space
    ∷ decimal f.peak
    (space
    ∷ decimal f.depth
    (space
    ∷ decimal f.heap (newline ∷ []))))))))

-- the letters of "refused "
unfoldable pub refused_line : ℕ → List ℕ
refused_line n = 114 ∷ 101 ∷ 102 ∷ 117 ∷ 115 ∷ 101 ∷ 100 ∷ space ∷ decimal n (newline ∷ [])

unfoldable pub printed_by : ℕ → List ℕ → List ℕ → List ℕ
printed_by zero image sheet = figures_line (figures_of (outcome (sheet_given image sheet)))
printed_by (suc n) image sheet = refused_line (suc n)

unfoldable pub printed : List ℕ → List ℕ
printed bytes = printed_by (program_refusal bytes) (image_read bytes) (sheet_read bytes)
