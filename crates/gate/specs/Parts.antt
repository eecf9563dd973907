-- Parts of the image's tests, as the checks take them one after the other.
use Rattle.std.specs.Prelude.{◌≡◌, Bool, ◌&&◌, Option, Some, None, ◌||◌, List, ℕ, ◌+◌, ◌*◌, ◌<◌, leb, ltb, eqb, length, get_or}
use Rattle.gate.specs.declared.code.Kind.{Kind}
use Rattle.gate.specs.declared.code.Kind.TheVariants.{Unused, Anything, Truth, Address, Input, Output, Ruleset, Primitive1, Primitive2}
use Rattle.gate.specs.declared.code.Format.{Format}
use Rattle.gate.specs.declared.image.Header.{Header}
use Rattle.gate.specs.declared.image.Start.{Start}
use Rattle.hume.specs.Tests.{pick, every}
use Rattle.hume.specs.Image.{Program, program, byte, half, ruleset_at, order_at}
use Rattle.hume.specs.Refusals.{Field, Fields, fields, unused, anything, truth, address, input, output, callee, primitive1, primitive2, field_ok, format_of, opcode_ok, ruleset_ok}

-- what is read, and that it is small
pub record Read (x bound r : ℕ) : Type 0 where
  pub is : r ≡ x
  pub small : r < bound

unfoldable pub ranges_ok : ℕ → ℕ → ℕ → ℕ → ℕ → Bool
ranges_ok inputs outputs rulesets handler size =
    leb inputs 8
    && (leb outputs 8
    && (leb 1 rulesets
    && (leb rulesets 32
    && ((ltb handler rulesets || eqb handler 255) && (leb 1 size && leb size 4096)))))

abbrev pub count_ok : Program → ℕ → Bool
count_ok P r = leb 1 (P.count r) && leb (P.count r) 16

-- where the first n rulesets end, unless one has a rule count outside its range
abbrev pub counts_end : List ℕ → ℕ → Option ℕ
counts_end m n = pick (every n (count_ok (program m))) (Some (ruleset_at m n)) None

-- where the rulesets end, unless one has an address that is no instruction's
abbrev pub addresses_end : List ℕ → Option ℕ
addresses_end m = pick (every (program m).rulesets (ruleset_ok (program m))) (Some (ruleset_at m (byte m 7))) None

-- n addresses from the place p on
unfoldable pub rules_ok : List ℕ → ℕ → ℕ → ℕ → Bool
rules_ok m p n size = every n (λ k. ltb (half m (p + 2 * k)) size)

-- the code's kinds of field
abbrev pub kind_of : Kind → Field
kind_of Unused = unused
kind_of Anything = anything
kind_of Truth = truth
kind_of Address = address
kind_of Input = input
kind_of Output = output
kind_of Ruleset = callee
kind_of Primitive1 = primitive1
kind_of Primitive2 = primitive2

-- the kinds of an instruction's three fields
abbrev pub kinds : Format → Fields
kinds f = fields (kind_of f.a) (kind_of f.b) (kind_of f.c)

-- a program of which only the header is given
abbrev pub sized : Header → Program
sized h =
    record {
      inputs = h.inputs;
      outputs = h.outputs;
      rulesets = h.rulesets;
      handler = h.handler;
      size = h.size;
      entry = λ r. 0;
      count = λ r. 0;
      rule = λ r k. 0;
      opcode = λ k. 0;
      arg_a = λ k. 0;
      arg_b = λ k. 0;
      arg_c = λ k. 0;
    }

-- the numbers that stand in the image's first bytes
abbrev pub HeaderOf : List ℕ → Header → Type 0
HeaderOf m h =
    h
    ≡ record { inputs = byte m 5; outputs = byte m 6; rulesets = byte m 7; handler = byte m 8; size = half m 9 }

-- the test of an instruction, by its four numbers
unfoldable pub fields_ok : Program → ℕ → ℕ → ℕ → ℕ → Bool
fields_ok P op a b c =
    opcode_ok op
    && (field_ok P (format_of op).a a && (field_ok P (format_of op).b b && field_ok P (format_of op).c c))

unfoldable pub ends_ok : ℕ → Bool
ends_ok op = eqb op 15 || (eqb op 18 || (eqb op 21 || eqb op 40))

-- the places of a ruleset's start
abbrev pub in_image : Start → ℕ
in_image s = s.image

abbrev pub in_order : Start → ℕ
in_order s = s.order

abbrev pub start_at : List Start → ℕ → Start
start_at starts k = get_or starts k (record { image = 0; order = 0 })

-- where each ruleset begins, in the image and in the rule order, to one past the last that there may be
pub record LaidOut (m : List ℕ) (at order : List ℕ) : Type 0 where
  pub at_length : length at ≡ 33
  pub order_length : length order ≡ 33
  pub begins : (k : ℕ) → k < 33 → get_or at k 0 ≡ ruleset_at m k
  pub ordered : (k : ℕ) → k < 33 → get_or order k 0 ≡ order_at (program m) k
