-- Document 01, "What is turned away, first that applies".
use Rattle.std.specs.Prelude.{Bool, true, false, ◌&&◌, ◌||◌, List, [], ◌∷◌, ℕ, ◌+◌, ◌-◌, ◌*◌, leb, ltb, eqb, length, get_or, take, drop}
use Rattle.hume.specs.Tests.{every, all}
use Rattle.hume.specs.Image.{Program, program, total_length, version, code_at, order_at}
use Rattle.hume.specs.Values.{wire_ok}

-- ---- which fields an instruction has, and what may stand in them

-- "Fields not named below are zero"; "a of CopyInput, Consume, MaybeConsume, Write, Call and the primitives is checked in the
-- image (it must exist), as is c of MkBool and MatchBool."
pub data Field : Type 0 where
  unused anything truth address input output callee primitive1 primitive2 : Field

pub record Fields : Type 0 where
  pub a : Field
  pub b : Field
  pub c : Field

abbrev pub fields : Field → Field → Field → Fields
fields x y z = record { a = x; b = y; c = z }

unfoldable pub field_ok : Program → Field → ℕ → Bool
field_ok P unused x = eqb x 0
field_ok P anything x = true
field_ok P truth x = ltb x 2
field_ok P address x = ltb x P.size
field_ok P input x = ltb x P.inputs
field_ok P output x = ltb x P.outputs
field_ok P callee x = ltb x P.rulesets
field_ok P primitive1 x = leb 1 x && leb x 3
field_ok P primitive2 x = leb 1 x && leb x 22

-- by opcode, from 1
unfoldable pub format : List Fields
format =
    -- 1 MkBool c, 2 MkInt c, 3 MkFloat c, 4 MkNone
    fields unused unused truth
    ∷ fields unused unused anything
    ∷ fields unused unused anything
    ∷ fields unused unused unused
    -- 5 MkTuple a, 6 MkCon a fields, tag b
    ∷ fields anything unused unused
    ∷ fields anything anything unused
    -- 7 Push a, 8 Pop a, 9 Slide a, 10 Copy a, 11 CopyArg a, 12 CreateFrame a, 13 PushVar a, 14 MakeVar a
    ∷ fields anything unused unused
    ∷ fields anything unused unused
    ∷ fields anything unused unused
    ∷ fields anything unused unused
    ∷ fields anything unused unused
    ∷ fields anything unused unused
    ∷ fields anything unused unused
    ∷ fields anything unused unused
    -- 15 Goto b, 16 If b, 17 Call a, 18 Return
    ∷ fields unused address unused
    ∷ fields unused address unused
    ∷ fields callee unused unused
    ∷ fields unused unused unused
    -- 19 CallPrim1 a, 20 CallPrim2 a, 21 Raise b
    ∷ fields primitive1 unused unused
    ∷ fields primitive2 unused unused
    ∷ fields unused anything unused
    -- 22 StartMatches, 23 MatchRule, 24 MatchedRule, 25 MatchNone, 26 MatchAvailable
    ∷ fields unused unused unused
    ∷ fields unused unused unused
    ∷ fields unused unused unused
    ∷ fields unused unused unused
    ∷ fields unused unused unused
    -- 27 MatchBool c, 28 MatchInt c, 29 MatchFloat c, 30 MatchTuple a, 31 MatchCon a, tag b, 32 MatchExn b
    ∷ fields unused unused truth
    ∷ fields unused unused anything
    ∷ fields unused unused anything
    ∷ fields anything unused unused
    ∷ fields anything anything unused
    ∷ fields unused anything unused
    -- 33 Unpack, 34 Reorder
    ∷ fields unused unused unused
    ∷ fields unused unused unused
    -- 35 CopyInput a, 36 Consume a, 37 MaybeConsume a, 38 CheckOutputs, 39 Write a, 40 Schedule
    ∷ fields input unused unused
    ∷ fields input unused unused
    ∷ fields input unused unused
    ∷ fields unused unused unused
    ∷ fields output unused unused
    ∷ fields unused unused unused
    ∷ []

unfoldable pub opcode_ok : ℕ → Bool
opcode_ok op = leb 1 op && leb op (length format)

unfoldable pub format_of : ℕ → Fields
format_of op = get_or format (op - 1) (fields unused unused unused)

-- ---- 1 to 4: the image

-- "fewer than 11 bytes, or the length isn't the slice's"
unfoldable pub length_ok : List ℕ → Bool
length_ok m = leb 11 (length m) && eqb (total_length m) (length m)

unfoldable pub version_ok : List ℕ → Bool
version_ok m = eqb (version m) 1

-- "a count or handler outside its range, or the total length doesn't fit the counts"
unfoldable pub counts_ok : List ℕ → Program → Bool
counts_ok m P =
    leb P.inputs 8
    && (leb P.outputs 8
    && (leb 1 P.rulesets
    && (leb P.rulesets 32
    && ((ltb P.handler P.rulesets || eqb P.handler 255)
    && (leb 1 P.size
    && (leb P.size 4096
    && (every P.rulesets (λ r. leb 1 (P.count r) && leb (P.count r) 16)
    && eqb (code_at m P.size) (length m))))))))

-- "entry address", "rule addresses": "Addresses count instructions from 0."
unfoldable pub ruleset_ok : Program → ℕ → Bool
ruleset_ok P r = ltb (P.entry r) P.size && every (P.count r) (λ k. ltb (P.rule r k) P.size)

-- "an opcode, argument, unused field, address"
unfoldable pub instruction_ok : Program → ℕ → Bool
instruction_ok P k =
    opcode_ok (P.opcode k)
    && (field_ok P (format_of (P.opcode k)).a (P.arg_a k)
    && (field_ok P (format_of (P.opcode k)).b (P.arg_b k)
    && field_ok P (format_of (P.opcode k)).c (P.arg_c k)))

-- "The last instruction is Goto, Return, Raise or Schedule."
unfoldable pub last_ok : Program → Bool
last_ok P =
    eqb (P.opcode (P.size - 1)) 15
    || (eqb (P.opcode (P.size - 1)) 18 || (eqb (P.opcode (P.size - 1)) 21 || eqb (P.opcode (P.size - 1)) 40))

unfoldable pub code_ok : Program → Bool
code_ok P = every P.rulesets (ruleset_ok P) && (every P.size (instruction_ok P) && last_ok P)

-- the number n unless the test passes, and then what comes after; 0 says that no number applies
unfoldable pub unless : Bool → ℕ → ℕ → ℕ
unless true n later = later
unless false n later = n

unfoldable pub image_refusal : List ℕ → ℕ
image_refusal m =
    unless (length_ok m) 1 (unless (version_ok m) 2 (unless (counts_ok m (program m)) 3 (unless (code_ok (program m)) 4 0)))

-- ---- 5 to 8: what is lent besides the image

-- "Card: 40 numbers of 32 bits, one per opcode, each 1..65535."
unfoldable pub card_ok : List ℕ → Bool
card_ok card = eqb (length card) 40 && all (λ x. leb 1 x && leb x 65535) card

-- "a limit above its cap or its area": "stack S (0..4096 words), heap H (0..16384 words)", "at least S and H long"
unfoldable pub limits_ok : ℕ → ℕ → ℕ → ℕ → Bool
limits_ok S H stack heap = leb S 4096 && (leb H 16384 && (leb S stack && leb H heap))

-- "Wires: 65 words each, inputs first."
unfoldable pub wires_ok : Program → List ℕ → Bool
wires_ok P w = eqb (length w) (65 * (P.inputs + P.outputs)) && every (P.inputs + P.outputs) (wire_ok w)

-- whether the number x is among the words
unfoldable pub among : ℕ → List ℕ → Bool
among x [] = false
among x (y ∷ ys) = eqb x y || among x ys

-- "a permutation of 0..count-1": as many words as rules, and each rule is among them
unfoldable pub permutation : ℕ → List ℕ → Bool
permutation n ws = eqb (length ws) n && every n (λ x. among x ws)

unfoldable pub order_of : Program → List ℕ → ℕ → List ℕ
order_of P order r = take (P.count r) (drop (order_at P r) order)

-- "Rule order: one word per rule, ruleset after ruleset; in each ruleset a permutation of 0..count-1."
unfoldable pub order_ok : Program → List ℕ → Bool
order_ok P order =
    eqb (length order) (order_at P P.rulesets)
    && every P.rulesets (λ r. permutation (P.count r) (order_of P order r))
