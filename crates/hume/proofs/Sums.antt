-- Document 01, "Sums to prove and to run": P1 to P12 in one table, from image bytes, by computation.
use mathlib.Core.Path.{◌≡◌, refl}
use mathlib.Core.List.{List, [], ◌∷◌, ◌++◌, map}
use Prim.Native.Nat.{ℕ}
use lib.ListN.{replicate}
use Rattle.hume.specs.Call.{Given}
use Rattle.hume.proofs.Build.{Sum, sum, instr, image, entered, plain, limits, given, capped}
use Rattle.hume.proofs.Shown.{seen}

-- MkInt 7, MkInt 5, CallPrim2 p, Schedule under the limits t, s, h
abbrev two_ints : ℕ → ℕ → ℕ → ℕ → Given
two_ints p t s h =
    given (plain (instr 2 0 0 7 ∷ instr 2 0 0 5 ∷ instr 20 p 0 0 ∷ instr 40 0 0 0 ∷ [])) (limits t s h) [] (0 ∷ [])

-- MkInt c or MkFloat c, CallPrim1 p, Schedule
abbrev converting : ℕ → ℕ → ℕ → Given
converting op c p = capped (plain (instr op 0 0 c ∷ instr 19 p 0 0 ∷ instr 40 0 0 0 ∷ [])) [] (0 ∷ [])

-- Each row: the call; then no refusal (0), the figures, the stack's words, the heap's words, the wires, the order.
unfoldable pub sums : List Sum
sums =
    -- P1 "prints `0 0 3 4 156 2 1 6`"
    sum (two_ints 7 156 2 6)
    (0 ∷ 0 ∷ 0 ∷ 3 ∷ 4 ∷ 156 ∷ 2 ∷ 1 ∷ 6 ∷ 268435460 ∷ 131072 ∷ 7 ∷ 131072 ∷ 5 ∷ 131072 ∷ 12 ∷ 0 ∷ [])
    -- P2 "T 155: `5 0 3 3 146 2 1 6`"
    ∷ sum (two_ints 7 155 2 6)
    (0 ∷ 5 ∷ 0 ∷ 3 ∷ 3 ∷ 146 ∷ 2 ∷ 1 ∷ 6 ∷ 268435460 ∷ 131072 ∷ 7 ∷ 131072 ∷ 5 ∷ 131072 ∷ 12 ∷ 0 ∷ [])
    -- P3 "S 1: `6 0 1 1 10 1 1 2`"
    ∷ sum (two_ints 7 156 1 6) (0 ∷ 6 ∷ 0 ∷ 1 ∷ 1 ∷ 10 ∷ 1 ∷ 1 ∷ 2 ∷ 268435456 ∷ 131072 ∷ 7 ∷ 0 ∷ [])
    -- P4 "H 5: `7 0 2 2 20 2 2 4`"
    ∷ sum (two_ints 7 156 2 5)
    (0 ∷ 7 ∷ 0 ∷ 2 ∷ 2 ∷ 20 ∷ 2 ∷ 2 ∷ 4 ∷ 268435456 ∷ 268435458 ∷ 131072 ∷ 7 ∷ 131072 ∷ 5 ∷ 0 ∷ [])
    -- P5 "T 10, S 1, H 3: ending 5 at pc 1"
    ∷ sum (two_ints 7 10 1 3) (0 ∷ 5 ∷ 0 ∷ 1 ∷ 1 ∷ 10 ∷ 1 ∷ 1 ∷ 2 ∷ 268435456 ∷ 131072 ∷ 7 ∷ 0 ∷ [])
    -- P6 "T 20, S 1, H 3: ending 6"
    ∷ sum (two_ints 7 20 1 3) (0 ∷ 6 ∷ 0 ∷ 1 ∷ 1 ∷ 10 ∷ 1 ∷ 1 ∷ 2 ∷ 268435456 ∷ 131072 ∷ 7 ∷ 0 ∷ [])
    -- P7 "primitive 8 instead: the Int is -2"
    ∷ sum (two_ints 8 156 2 6)
    (0 ∷ 0 ∷ 0 ∷ 3 ∷ 4 ∷ 156 ∷ 2 ∷ 1 ∷ 6 ∷ 268435460 ∷ 131072 ∷ 7 ∷ 131072 ∷ 5 ∷ 131072 ∷ 4294967294 ∷ 0 ∷ [])
    -- P8 "0 MkInt 3, 1 Call 1, 2 Schedule, 3 CreateFrame 1, 4 CopyArg 0, 5 Return, ruleset 1 at 3: peak 7, depth 2, heap 2, time 60"
    ∷ sum
    (capped
    (image 0 0 255 (entered 0 ∷ entered 3 ∷ [])
    (instr 2 0 0 3 ∷ instr 17 1 0 0 ∷ instr 40 0 0 0 ∷ instr 12 1 0 0 ∷ instr 11 0 0 0 ∷ instr 18 0 0 0 ∷ []))
    [] (0 ∷ 0 ∷ []))
    (0 ∷ 0 ∷ 0 ∷ 2 ∷ 6 ∷ 60 ∷ 7 ∷ 2 ∷ 2 ∷ 268435456 ∷ 268435456 ∷ 131072 ∷ 3 ∷ 0 ∷ 0 ∷ [])
    -- P9 "MkInt 0, MkInt 9, div.i: ending 4, detail 1, pc 2, heap 4"
    ∷ sum
    (capped (plain (instr 2 0 0 0 ∷ instr 2 0 0 9 ∷ instr 20 10 0 0 ∷ instr 40 0 0 0 ∷ [])) [] (0 ∷ []))
    (0 ∷ 4 ∷ 1 ∷ 2 ∷ 2 ∷ 20 ∷ 2 ∷ 2 ∷ 4 ∷ 268435456 ∷ 268435458 ∷ 131072 ∷ 0 ∷ 131072 ∷ 9 ∷ 0 ∷ [])
    -- P10 "toFloat.i 16777217 is 4B800000, 16777219 is 4B800002, 2147483647 is 4F000000"
    ∷ sum (converting 2 16777217 2)
    (0 ∷ 0 ∷ 0 ∷ 2 ∷ 3 ∷ 729 ∷ 1 ∷ 1 ∷ 4 ∷ 268435458 ∷ 131072 ∷ 16777217 ∷ 196608 ∷ 0x4B800000 ∷ 0 ∷ [])
    ∷ sum (converting 2 16777219 2)
    (0 ∷ 0 ∷ 0 ∷ 2 ∷ 3 ∷ 729 ∷ 1 ∷ 1 ∷ 4 ∷ 268435458 ∷ 131072 ∷ 16777219 ∷ 196608 ∷ 0x4B800002 ∷ 0 ∷ [])
    ∷ sum (converting 2 2147483647 2)
    (0 ∷ 0 ∷ 0 ∷ 2 ∷ 3 ∷ 729 ∷ 1 ∷ 1 ∷ 4 ∷ 268435458 ∷ 131072 ∷ 2147483647 ∷ 196608 ∷ 0x4F000000 ∷ 0 ∷ [])
    -- P11 "toInt.f of CF000000 is -2147483648; of 4F000000 exception 2"
    ∷ sum (converting 3 0xCF000000 3)
    (0 ∷ 0 ∷ 0 ∷ 2 ∷ 3 ∷ 3003 ∷ 1 ∷ 1 ∷ 4 ∷ 268435458 ∷ 196608 ∷ 0xCF000000 ∷ 131072 ∷ 2147483648 ∷ 0 ∷ [])
    ∷ sum (converting 3 0x4F000000 3) (0 ∷ 4 ∷ 2 ∷ 1 ∷ 1 ∷ 10 ∷ 1 ∷ 1 ∷ 2 ∷ 268435456 ∷ 196608 ∷ 0x4F000000 ∷ 0 ∷ [])
    -- P12 "wire 5, 262144, 2, 131072, 5, 458752: CopyInput takes 6 words: 131072, 5, 262144, 2, 268435456, 536870912"
    ∷ sum
    (capped (image 1 0 255 (entered 0 ∷ []) (instr 35 0 0 0 ∷ instr 40 0 0 0 ∷ []))
    (5 ∷ 262144 ∷ 2 ∷ 131072 ∷ 5 ∷ 458752 ∷ replicate 59 0)
    (0 ∷ []))
    (0
    ∷ 0
    ∷ 0
    ∷ 1
    ∷ 2
    ∷ 20
    ∷ 1
    ∷ 1
    ∷ 6
    ∷ 268435458
    ∷ 131072
    ∷ 5
    ∷ 262144
    ∷ 2
    ∷ 268435456
    ∷ 536870912
    ∷ 5
    ∷ 262144
    ∷ 2
    ∷ 131072
    ∷ 5
    ∷ 458752
    ∷ replicate 59 0
    ++ 0 ∷ [])
    ∷ []

pub table : map (λ s. seen s.call) sums ≡ map (λ s. s.shows) sums
unfolding sums seen
table = refl
