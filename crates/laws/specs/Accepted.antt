-- What an accepted input gives to whoever works with it, so that nothing is tested again.
use Rattle.std.specs.Prelude.{◌≡◌, List, ℕ, ◌+◌, ◌*◌, ◌^◌, ◌≤◌, ◌<◌, T, length, get_or}
use Rattle.hume.specs.Image.{Program, byte, order_at}
use Rattle.hume.specs.Refusals.{field_ok, format_of, permutation, order_of, last_ok}
use Rattle.hume.specs.Values.{wire_ok}

-- The bytes of an image are bytes.
pub record Bytes (m : List ℕ) : Type 0 where
  pub each : (i : ℕ) → byte m i < 256

-- The words of a buffer are of 32 bits.
pub record Words32 (l : List ℕ) : Type 0 where
  pub each : (i : ℕ) → get_or l i 0 < 2 ^ 32

-- "8 handler ruleset (below R, or 255 for none)"
pub data Handler (P : Program) : Type 0 where
  absent : P.handler ≡ 255 → Handler P
  present : P.handler < P.rulesets → Handler P

pub record InstructionFits (P : Program) (k : ℕ) : Type 0 where
  pub least : 1 ≤ P.opcode k
  pub most : P.opcode k ≤ 40
  pub a : T (field_ok P (format_of (P.opcode k)).a (P.arg_a k))
  pub b : T (field_ok P (format_of (P.opcode k)).b (P.arg_b k))
  pub c : T (field_ok P (format_of (P.opcode k)).c (P.arg_c k))

-- the program of an image that none of 1 to 4 turns away
pub record Accepted (P : Program) : Type 0 where
  pub inputs : P.inputs ≤ 8
  pub outputs : P.outputs ≤ 8
  pub some_ruleset : 1 ≤ P.rulesets
  pub rulesets : P.rulesets ≤ 32
  pub handler : Handler P
  pub some_instruction : 1 ≤ P.size
  pub size : P.size ≤ 4096
  pub some_rule : (r : ℕ) → r < P.rulesets → 1 ≤ P.count r
  pub rules : (r : ℕ) → r < P.rulesets → P.count r ≤ 16
  pub entry : (r : ℕ) → r < P.rulesets → P.entry r < P.size
  pub rule : (r k : ℕ) → r < P.rulesets → k < P.count r → P.rule r k < P.size
  pub instruction : (k : ℕ) → k < P.size → InstructionFits P k
  pub last : T (last_ok P)

-- and how large its fields are
pub record Narrow (P : Program) : Type 0 where
  pub a : (k : ℕ) → P.arg_a k < 256
  pub b : (k : ℕ) → P.arg_b k < 65536
  pub c : (k : ℕ) → P.arg_c k < 2 ^ 32

-- a card that 5 does not turn away
pub record CardFits (card : List ℕ) : Type 0 where
  pub long : length card ≡ 40
  pub least : (i : ℕ) → i < 40 → 1 ≤ get_or card i 1
  pub most : (i : ℕ) → i < 40 → get_or card i 1 ≤ 65535

-- wires that 7 does not turn away
pub record WiresFit (P : Program) (w : List ℕ) : Type 0 where
  pub long : length w ≡ 65 * (P.inputs + P.outputs)
  pub each : (i : ℕ) → i < P.inputs + P.outputs → T (wire_ok w i)

-- an order that 8 does not turn away
pub record OrderFits (P : Program) (order : List ℕ) : Type 0 where
  pub long : length order ≡ order_at P P.rulesets
  pub each : (r : ℕ) → r < P.rulesets → T (permutation (P.count r) (order_of P order r))
