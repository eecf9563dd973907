-- Images and calls for worked sums, written out in bytes.
use mathlib.Core.List.{List, [], ◌∷◌, ◌++◌}
use Prim.Native.Nat.{ℕ, ◌+◌, ◌/◌, ◌%◌}
use lib.ListN.{length, replicate}
use Rattle.limits.specs.Machine.{Limits}
use Rattle.hume.specs.Call.{Given}

pub record Set : Type 0 where
  pub entry : ℕ
  pub rules : List ℕ

abbrev pub two : ℕ → List ℕ
two n = n / 256 ∷ n % 256 ∷ []

abbrev pub four : ℕ → List ℕ
four n = two (n / 65536) ++ two (n % 65536)

abbrev pub instr : ℕ → ℕ → ℕ → ℕ → List ℕ
instr op a b c = op ∷ a ∷ two b ++ four c

abbrev pub addresses : List ℕ → List ℕ
addresses [] = []
addresses (x ∷ xs) = two x ++ addresses xs

abbrev pub table : List Set → List ℕ
table [] = []
table (s ∷ ss) = two s.entry ++ length s.rules ∷ addresses s.rules ++ table ss

abbrev pub flat : List (List ℕ) → List ℕ
flat [] = []
flat (x ∷ xs) = x ++ flat xs

abbrev pub headed : ℕ → ℕ → ℕ → List Set → ℕ → List ℕ → List ℕ
headed i o h ss n bytes = four (length bytes + 11) ++ 1 ∷ i ∷ o ∷ length ss ∷ h ∷ two n ++ bytes

-- inputs, outputs, handler, rulesets, instructions
abbrev pub image : ℕ → ℕ → ℕ → List Set → List (List ℕ) → List ℕ
image i o h ss code = headed i o h ss (length code) (table ss ++ flat code)

-- "every ruleset with one rule at 0"
abbrev pub entered : ℕ → Set
entered e = record { entry = e; rules = 0 ∷ [] }

-- "one ruleset, .. entry 0, no handler"
abbrev pub plain : List (List ℕ) → List ℕ
plain code = image 0 0 255 (entered 0 ∷ []) code

abbrev pub limits : ℕ → ℕ → ℕ → Limits
limits t s h = record { time = t; stack = s; heap = h }

-- "card all 10", areas as long as the caps, order 0 for one ruleset of one rule
abbrev pub given : List ℕ → Limits → List ℕ → List ℕ → Given
given m L wires order =
    record {
      image = m;
      card = replicate 40 10;
      limits = L;
      stack = replicate 4096 7;
      heap = replicate 16384 7;
      wires = wires;
      order = order;
    }

-- "limits at their caps"
abbrev pub capped : List ℕ → List ℕ → List ℕ → Given
capped m wires order = given m (limits 4294967295 4096 16384) wires order

-- a call, and what its answer shows
pub record Sum : Type 0 where
  pub call : Given
  pub shows : List ℕ

abbrev pub sum : Given → List ℕ → Sum
sum g l = record { call = g; shows = l }
