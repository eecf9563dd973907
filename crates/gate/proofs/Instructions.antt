-- Laws of an instruction's test: the table of kinds against hume's `format`, and the fields one after the other.
use mathlib.Core.Path.{◌≡◌, refl, sym, ap, ◌∙◌}
use mathlib.Core.Bool.{true, false, ◌&&◌}
use mathlib.Core.List.{List, map}
use Prim.Native.Nat.{ℕ, ◌+◌, ◌-◌, ◌*◌, ◌<◌}
use lib.Dec.{leb}
use lib.ListN.{get_or}
use Rattle.std.proofs.lemmas.List.{get_or-map}
use Rattle.hume.specs.Tests.{every}
use Rattle.hume.specs.Image.{Program, program, byte, half, full, ruleset_at, code_at}
use Rattle.hume.specs.Refusals.{Field, Fields, fields, unused, anything, truth, address, input, output, callee, primitive1, primitive2, field_ok, format, format_of, opcode_ok, instruction_ok, last_ok}
use Rattle.gate.specs.declared.code.Format.{Format}
use Rattle.gate.specs.declared.image.Header.{Header}
use Rattle.gate.specs.declared.code.TheConstants.{FORMATS}
use Rattle.gate.specs.Parts.{kinds, sized, HeaderOf, fields_ok, ends_ok}
use Rattle.gate.proofs.Tests.{and_yes, and_no}

-- ---- the table

-- It has the kinds of every format, by one computed equation.
formats_are : map kinds FORMATS ≡ format
unfolding format
formats_are = refl

pub format_is : (op : ℕ) (d : Format) → op - 1 < 40 → kinds (get_or FORMATS (op - 1) d) ≡ format_of op
unfolding format_of
format_is op d h =
    sym (get_or-map kinds FORMATS (op - 1) d (fields unused unused unused) h)
    ∙ ap (λ (l : List Fields). get_or l (op - 1) (fields unused unused unused)) formats_are

-- ---- one instruction

-- what a field may hold goes by the program's sizes alone
field_sized : (P : Program) (f : Field) (x : ℕ)
    → field_ok (sized (record { inputs = P.inputs; outputs = P.outputs; rulesets = P.rulesets; size = P.size; handler = P.handler })) f x
    ≡ field_ok P f x
unfolding field_ok
field_sized P unused x = refl
field_sized P anything x = refl
field_sized P truth x = refl
field_sized P address x = refl
field_sized P input x = refl
field_sized P output x = refl
field_sized P callee x = refl
field_sized P primitive1 x = refl
field_sized P primitive2 x = refl

-- the test at what was read
pub fields_read : (P : Program) {op op' a a' b b' c c' : ℕ} → op ≡ op' → a ≡ a' → b ≡ b' → c ≡ c'
    → fields_ok P op' a' b' c' ≡ fields_ok P op a b c
fields_read P eo ea eb ec = sym (λ j. fields_ok P (eo j) (ea j) (eb j) (ec j))

module _ (P : Program) (op a b c : ℕ) where
  pub opcode_out : (leb 1 op && leb op 40) ≡ false → fields_ok P op a b c ≡ false
  unfolding fields_ok opcode_ok format
  opcode_out h = and_no _ _ h

  pub fields_are : (leb 1 op && leb op 40) ≡ true → (k : Fields) → k ≡ format_of op
      → fields_ok P op a b c ≡ (field_ok P k.a a && (field_ok P k.b b && field_ok P k.c c))
  unfolding fields_ok opcode_ok format
  fields_are h k e =
      and_yes _ _ h ∙ sym (λ j. field_ok P (e j).a a && (field_ok P (e j).b b && field_ok P (e j).c c))

-- ---- the instructions of an image

module _ (m : List ℕ) (start : ℕ) (h : Header) (st : start ≡ ruleset_at m (byte m 7)) (es : HeaderOf m h) where
  pub instruction_is : (k : ℕ) → instruction_ok (program m) k
      ≡ fields_ok (sized h) (byte m (start + 8 * k)) (byte m (start + 8 * k + 1)) (half m (start + 8 * k + 2))
      (full m (start + 8 * k + 4))
  unfolding instruction_ok program code_at fields_ok
  instruction_is k =
      let at = ruleset_at m (byte m 7) + 8 * k in
      let P = program m in
      let op = byte m at in
      sym (λ j. opcode_ok op
      && (field_sized P (format_of op).a (byte m (at + 1)) j
      && (field_sized P (format_of op).b (half m (at + 2)) j && field_sized P (format_of op).c (full m (at + 4)) j)))
      ∙ sym (λ j. fields_ok (sized (es j)) (byte m (st j + 8 * k)) (byte m (st j + 8 * k + 1))
      (half m (st j + 8 * k + 2)) (full m (st j + 8 * k + 4)))

  pub last_is : last_ok (program m) ≡ ends_ok (byte m (start + 8 * (h.size - 1)))
  unfolding last_ok program code_at ends_ok
  last_is = sym (λ j. ends_ok (byte m (st j + 8 * ((es j).size - 1))))

  pub instructions_are : every h.size (λ k. fields_ok (sized h) (byte m (start + 8 * k)) (byte m (start + 8 * k + 1))
      (half m (start + 8 * k + 2)) (full m (start + 8 * k + 4)))
      ≡ every (program m).size (instruction_ok (program m))
  unfolding program
  instructions_are = λ j. every (es j).size (λ k. sym (instruction_is k) j)
