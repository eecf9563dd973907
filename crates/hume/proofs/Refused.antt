-- Which number a call or an input is turned away under, by computation; what a call leaves in areas longer than its limits; and
-- what the program writes.
use mathlib.Core.Path.{◌≡◌, refl}
use mathlib.Core.List.{List, [], ◌∷◌, ◌++◌, map}
use Prim.Native.Nat.{ℕ, ◌+◌}
use lib.ListN.{replicate, set, take}
use Rattle.limits.specs.Machine.{Limits}
use Rattle.hume.specs.Call.{Given, answer}
use Rattle.hume.proofs.Build.{Sum, sum, four, image, plain, limits, given, capped}
use Rattle.hume.proofs.Shown.{counted, told}
use Rattle.hume.proofs.Assembly.{mk_bool, mk_int, push, goto, if_true, call, call_prim1, call_prim2, copy_input, write, schedule}

-- turned away: the number, and all figures 0
abbrev turned : ℕ → List ℕ
turned n = n ∷ 0 ∷ 0 ∷ 0 ∷ 0 ∷ 0 ∷ 0 ∷ 0 ∷ 0 ∷ []

abbrev one : List ℕ
one = plain (schedule ∷ [])

-- one byte of the smallest image changed; it is 4 bytes of length, 1, 0, 0, 1, 255, 0, 1, then 0, 0, 1, 0, 0, then the Schedule
abbrev damaged : ℕ → ℕ → Given
damaged i x = capped (set one i x) [] (0 ∷ [])

unfoldable pub image_rows : List Sum
image_rows =
    -- 1: fewer than 11 bytes, a length that isn't the slice's
    sum (capped [] [] []) (turned 1)
    ∷ sum (capped (take 10 one) [] (0 ∷ [])) (turned 1)
    ∷ sum (capped (0 ∷ 0 ∷ 0 ∷ 3 ∷ []) [] (0 ∷ [])) (turned 1)
    ∷ sum (damaged 3 25) (turned 1)
    ∷ sum (capped (one ++ 0 ∷ []) [] (0 ∷ [])) (turned 1)
    -- 2
    ∷ sum (damaged 4 2) (turned 2)
    -- 3: inputs, outputs, rulesets, handler, instructions, rule count, and a length that doesn't fit
    ∷ sum (damaged 5 9) (turned 3)
    ∷ sum (damaged 6 9) (turned 3)
    ∷ sum (damaged 7 0) (turned 3)
    ∷ sum (damaged 7 33) (turned 3)
    ∷ sum (damaged 8 1) (turned 3)
    ∷ sum (damaged 8 254) (turned 3)
    ∷ sum (damaged 10 0) (turned 3)
    ∷ sum (damaged 10 2) (turned 3)
    ∷ sum (damaged 13 0) (turned 3)
    ∷ sum (damaged 13 17) (turned 3)
    ∷ sum (damaged 7 2) (turned 3)
    -- 4: an entry, a rule, an opcode, an unused field, the last instruction
    ∷ sum (damaged 12 1) (turned 4)
    ∷ sum (damaged 15 1) (turned 4)
    ∷ sum (damaged 16 0) (turned 4)
    ∷ sum (damaged 16 41) (turned 4)
    ∷ sum (damaged 17 1) (turned 4)
    ∷ sum (damaged 19 1) (turned 4)
    ∷ sum (damaged 23 1) (turned 4)
    ∷ sum (damaged 16 4) (turned 4)
    -- 4: arguments that don't exist
    ∷ sum (capped (plain (goto 1 ∷ [])) [] (0 ∷ [])) (turned 4)
    ∷ sum (capped (plain (if_true 2 ∷ schedule ∷ [])) [] (0 ∷ [])) (turned 4)
    ∷ sum (capped (plain (call 1 ∷ schedule ∷ [])) [] (0 ∷ [])) (turned 4)
    ∷ sum (capped (plain (call_prim1 0 ∷ schedule ∷ [])) [] (0 ∷ [])) (turned 4)
    ∷ sum (capped (plain (call_prim1 4 ∷ schedule ∷ [])) [] (0 ∷ [])) (turned 4)
    ∷ sum (capped (plain (call_prim2 23 ∷ schedule ∷ [])) [] (0 ∷ [])) (turned 4)
    ∷ sum (capped (plain (mk_bool 2 ∷ schedule ∷ [])) [] (0 ∷ [])) (turned 4)
    ∷ sum (capped (plain (copy_input 0 ∷ schedule ∷ [])) [] (0 ∷ [])) (turned 4)
    ∷ sum (capped (plain (write 0 ∷ schedule ∷ [])) [] (0 ∷ [])) (turned 4)
    ∷ []

-- ---- 5 to 8

-- the card, the areas' lengths, the limits, the wires and the order of a call of an image with one input and two rules
abbrev lending : List ℕ → ℕ → ℕ → Limits → List ℕ → List ℕ → Given
lending card s h L wires order =
    record {
      image = image 1 0 255 (record { entry = 0; rules = 0 ∷ 0 ∷ [] } ∷ []) (schedule ∷ []);
      card = card;
      limits = L;
      stack = replicate s 7;
      heap = replicate h 7;
      wires = wires;
      order = order;
    }

abbrev tens : List ℕ
tens = replicate 40 10

abbrev holding : List ℕ → ℕ → Given
holding ws zeros = lending tens 2 2 (limits 9 2 2) (ws ++ replicate zeros 0) (0 ∷ 1 ∷ [])

unfoldable pub lent_rows : List Sum
lent_rows =
    -- 5: length, entries, also of an opcode that the image doesn't use; before a limit
    sum (lending (replicate 39 10) 2 2 (limits 9 2 2) (replicate 65 0) (0 ∷ 1 ∷ [])) (turned 5)
    ∷ sum (lending (replicate 41 10) 2 2 (limits 9 2 2) (replicate 65 0) (0 ∷ 1 ∷ [])) (turned 5)
    ∷ sum (lending (set tens 3 0) 2 2 (limits 9 2 2) (replicate 65 0) (0 ∷ 1 ∷ [])) (turned 5)
    ∷ sum (lending (set tens 3 65536) 2 2 (limits 9 9 9) (replicate 65 0) (0 ∷ 1 ∷ [])) (turned 5)
    -- 6: above its area, above its cap; before the wires
    ∷ sum (lending tens 2 2 (limits 9 3 2) (replicate 65 0) (0 ∷ 1 ∷ [])) (turned 6)
    ∷ sum (lending tens 2 2 (limits 9 2 3) (replicate 65 0) (0 ∷ 1 ∷ [])) (turned 6)
    ∷ sum (lending tens 5000 2 (limits 9 4097 2) (replicate 65 0) (0 ∷ 1 ∷ [])) (turned 6)
    ∷ sum (lending tens 2 17000 (limits 9 2 16385) [] []) (turned 6)
    -- 7: length, count, words after the value, a value that isn't one; before the order
    ∷ sum (lending tens 2 2 (limits 9 2 2) (replicate 64 0) (0 ∷ 1 ∷ [])) (turned 7)
    ∷ sum (lending tens 2 2 (limits 9 2 2) (replicate 66 0) (0 ∷ 0 ∷ [])) (turned 7)
    ∷ sum (holding (65 ∷ []) 64) (turned 7)
    ∷ sum (holding (0 ∷ 1 ∷ []) 63) (turned 7)
    ∷ sum (holding (1 ∷ 458752 ∷ []) 63) (turned 7)
    ∷ sum (holding (2 ∷ 65536 ∷ 2 ∷ []) 62) (turned 7)
    ∷ sum (holding (2 ∷ 131073 ∷ 2 ∷ []) 62) (turned 7)
    ∷ sum (holding (2 ∷ 196608 ∷ 0x7F800001 ∷ []) 62) (turned 7)
    ∷ sum (holding (2 ∷ 262144 ∷ 1 ∷ []) 62) (turned 7)
    ∷ sum (holding (4 ∷ 131072 ∷ 2 ∷ 131072 ∷ 2 ∷ []) 60) (turned 7)
    ∷ sum (holding (2 ∷ 393216 ∷ 0 ∷ []) 62) (turned 7)
    ∷ sum (holding (2 ∷ 524288 ∷ 0 ∷ []) 62) (turned 7)
    -- and values that are: a Tuple of no field, an Exn of None, a Constr with a tag, a NaN
    ∷ sum (holding (2 ∷ 262144 ∷ 0 ∷ []) 62) (0 ∷ 5 ∷ 0 ∷ 0 ∷ 0 ∷ 0 ∷ 0 ∷ 0 ∷ 0 ∷ [])
    ∷ sum (holding (3 ∷ 393225 ∷ 1 ∷ 458752 ∷ []) 61) (0 ∷ 5 ∷ 0 ∷ 0 ∷ 0 ∷ 0 ∷ 0 ∷ 0 ∷ 0 ∷ [])
    ∷ sum (holding (4 ∷ 393215 ∷ 1 ∷ 196608 ∷ 0x7FC00000 ∷ []) 60) (0 ∷ 5 ∷ 0 ∷ 0 ∷ 0 ∷ 0 ∷ 0 ∷ 0 ∷ 0 ∷ [])
    -- 8: length, no permutation
    ∷ sum (lending tens 2 2 (limits 9 2 2) (replicate 65 0) (0 ∷ [])) (turned 8)
    ∷ sum (lending tens 2 2 (limits 9 2 2) (replicate 65 0) (0 ∷ 1 ∷ 2 ∷ [])) (turned 8)
    ∷ sum (lending tens 2 2 (limits 9 2 2) (replicate 65 0) (1 ∷ 1 ∷ [])) (turned 8)
    ∷ sum (lending tens 2 2 (limits 9 2 2) (replicate 65 0) (1 ∷ 2 ∷ [])) (turned 8)
    -- T, S and H of 0: the first instruction offends, and a limit of 0 is enough where nothing is used
    ∷ sum (given one (limits 0 0 0) [] (0 ∷ [])) (0 ∷ 5 ∷ 0 ∷ 0 ∷ 0 ∷ 0 ∷ 0 ∷ 0 ∷ 0 ∷ [])
    ∷ sum (given one (limits 10 0 0) [] (0 ∷ [])) (0 ∷ 0 ∷ 0 ∷ 0 ∷ 1 ∷ 10 ∷ 0 ∷ 0 ∷ 0 ∷ [])
    ∷ []

pub image_table : map (λ s. counted s.call) image_rows ≡ map (λ s. s.shows) image_rows
unfolding image_rows counted
image_table = refl

pub lent_table : map (λ s. counted s.call) lent_rows ≡ map (λ s. s.shows) lent_rows
unfolding lent_rows counted
lent_table = refl

-- ---- buffers

-- MkInt 5, Push 1, Schedule over a stack area of 5 words and a heap area of 4
abbrev small : Limits → Given
small L =
    record {
      image = plain (mk_int 5 ∷ push 1 ∷ schedule ∷ []);
      card = tens;
      limits = L;
      stack = replicate 5 7;
      heap = replicate 4 7;
      wires = [];
      order = 0 ∷ [];
    }

-- every word of both areas, above the limits too, is the machine's or 0
pub areas_whole : (answer (small (limits 99 2 2))).stack ++ (answer (small (limits 99 2 2))).heap
    ≡ 268435456 ∷ 0 ∷ 0 ∷ 0 ∷ 0 ∷ 131072 ∷ 5 ∷ 0 ∷ 0 ∷ []
unfolding counted
areas_whole = refl

-- a refused call leaves them
pub areas_left : (answer (small (limits 99 6 2))).stack ++ (answer (small (limits 99 6 2))).heap ≡ replicate 9 7
unfolding counted
areas_left = refl

-- ---- the program

abbrev fours : List ℕ → List ℕ
fours [] = []
fours (x ∷ xs) = four x ++ fours xs

-- a run sheet of no inputs, with its length and version
abbrev sheet : ℕ → ℕ → ℕ → ℕ → ℕ → List ℕ
sheet l v t s h = fours (l ∷ v ∷ t ∷ s ∷ h ∷ tens)

abbrev p1 : List ℕ
p1 = plain (mk_int 7 ∷ mk_int 5 ∷ call_prim2 7 ∷ schedule ∷ [])

-- "refused " and a digit
abbrev says : ℕ → List ℕ
says n = 114 ∷ 101 ∷ 102 ∷ 117 ∷ 115 ∷ 101 ∷ 100 ∷ 32 ∷ (48 + n) ∷ 10 ∷ []

pub record Told : Type 0 where
  pub reads : List ℕ
  pub writes : List ℕ

abbrev tells : List ℕ → List ℕ → Told
tells i o = record { reads = i; writes = o }

unfoldable pub program_rows : List Told
program_rows =
    -- P1 "prints `0 0 3 4 156 2 1 6`"; bytes after the sheet aren't read
    tells (p1 ++ sheet 180 1 156 2 6)
    (48 ∷ 32 ∷ 48 ∷ 32 ∷ 51 ∷ 32 ∷ 52 ∷ 32 ∷ 49 ∷ 53 ∷ 54 ∷ 32 ∷ 50 ∷ 32 ∷ 49 ∷ 32 ∷ 54 ∷ 10 ∷ [])
    ∷ tells (p1 ++ sheet 180 1 156 2 6 ++ 1 ∷ 2 ∷ [])
    (48 ∷ 32 ∷ 48 ∷ 32 ∷ 51 ∷ 32 ∷ 52 ∷ 32 ∷ 49 ∷ 53 ∷ 54 ∷ 32 ∷ 50 ∷ 32 ∷ 49 ∷ 32 ∷ 54 ∷ 10 ∷ [])
    -- 1: nothing, a cut image, a length over 33,899, a length below 4
    ∷ tells [] (says 1)
    ∷ tells (take 40 p1) (says 1)
    ∷ tells (0 ∷ 0 ∷ 132 ∷ 108 ∷ replicate 20 0) (says 1)
    ∷ tells (0 ∷ 0 ∷ 0 ∷ 3 ∷ []) (says 1)
    -- 4 before 9; 9: a cut sheet, a length, a version, each before 5
    ∷ tells (plain (goto 1 ∷ [])) (says 4)
    ∷ tells (p1 ++ take 179 (sheet 180 1 156 2 6)) (says 9)
    ∷ tells (p1 ++ sheet 184 1 156 2 6 ++ replicate 4 0) (says 9)
    ∷ tells (p1 ++ fours (180 ∷ 2 ∷ replicate 43 0)) (says 9)
    ∷ tells (p1 ++ fours (180 ∷ 1 ∷ 9 ∷ 5000 ∷ 9 ∷ replicate 40 0)) (says 5)
    ∷ tells (p1 ++ sheet 180 1 156 4097 6) (says 6)
    ∷ []

pub program_table : map (λ s. told s.reads) program_rows ≡ map (λ s. s.writes) program_rows
unfolding program_rows told
program_table = refl
