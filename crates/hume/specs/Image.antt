-- Document 01, "The image": from bytes to a program.
use Rattle.std.specs.Prelude.{List, ℕ, zero, suc, ◌+◌, ◌*◌, get_or}

unfoldable pub byte : List ℕ → ℕ → ℕ
byte m i = get_or m i 0

-- "Big-endian."
unfoldable pub half : List ℕ → ℕ → ℕ
half m i = byte m i * 256 + byte m (i + 1)

unfoldable pub full : List ℕ → ℕ → ℕ
full m i = half m i * 65536 + half m (i + 2)

-- What the machine runs. Rulesets, rules and instructions count from 0; "Addresses count instructions from 0".
pub record Program : Type 0 where
  pub inputs : ℕ
  pub outputs : ℕ
  pub rulesets : ℕ
  pub handler : ℕ
  pub size : ℕ
  pub entry : ℕ → ℕ
  pub count : ℕ → ℕ
  pub rule : ℕ → ℕ → ℕ
  pub opcode : ℕ → ℕ
  pub arg_a : ℕ → ℕ
  pub arg_b : ℕ → ℕ
  pub arg_c : ℕ → ℕ

-- "Then each ruleset: entry address (2 bytes), rule count (1 byte, 1..16), rule addresses (2 each)": where the ruleset r
-- begins, and, at the number of rulesets, where the instructions do
unfoldable pub ruleset_at : List ℕ → ℕ → ℕ
ruleset_at m zero = 11
ruleset_at m (suc r) = let p = ruleset_at m r in p + 3 + 2 * byte m (p + 2)

-- "Then N instructions of 8 bytes: opcode, a (1 byte), b (2), c (4)."
unfoldable pub code_at : List ℕ → ℕ → ℕ
code_at m k = ruleset_at m (byte m 7) + 8 * k

-- "Bytes 0-3 total length, 4 version (1), 5 inputs (0..8), 6 outputs (0..8), 7 rulesets R (1..32), 8 handler ruleset (below
-- R, or 255 for none), 9-10 instruction count N (1..4096)."
unfoldable pub total_length : List ℕ → ℕ
total_length m = full m 0

unfoldable pub version : List ℕ → ℕ
version m = byte m 4

unfoldable pub program : List ℕ → Program
program m =
    record {
      inputs = byte m 5;
      outputs = byte m 6;
      rulesets = byte m 7;
      handler = byte m 8;
      size = half m 9;
      entry = λ r. half m (ruleset_at m r);
      count = λ r. byte m (ruleset_at m r + 2);
      rule = λ r k. half m (ruleset_at m r + 3 + 2 * k);
      opcode = λ k. byte m (code_at m k);
      arg_a = λ k. byte m (code_at m k + 1);
      arg_b = λ k. half m (code_at m k + 2);
      arg_c = λ k. full m (code_at m k + 4);
    }

-- where the order of the ruleset r begins: "one word per rule, ruleset after ruleset"
unfoldable pub order_at : Program → ℕ → ℕ
order_at P zero = 0
order_at P (suc r) = order_at P r + P.count r
