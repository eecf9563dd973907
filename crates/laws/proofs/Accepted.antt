-- What the refusals' tests say, once they pass: stated once, as a law for each.
use mathlib.Core.Path.{◌≡◌}
use mathlib.Core.Bool.{Bool, ◌&&◌, ◌||◌}
use mathlib.Core.List.{List}
use Prim.Native.Nat.{ℕ, ◌+◌, ◌*◌, ◌^◌, ◌<◌}
use native.Mathlib.Omega.{arith}
use lib.Dec.{T, leb, ltb, eqb, leb→le, ltb→lt, eqb→eq}
use lib.ListN.{length, get_or}
use Rattle.hume.specs.Tests.{every}
use Rattle.hume.specs.Image.{Program, program, byte, half, full, code_at, order_at}
use Rattle.hume.specs.Refusals.{opcode_ok, format, field_ok, format_of, counts_ok, ruleset_ok, instruction_ok, code_ok, card_ok, wires_ok, permutation, order_of, order_ok}
use Rattle.hume.specs.Values.{wire_ok}
use Rattle.laws.specs.Accepted.{Bytes, Handler, absent, present, InstructionFits, Accepted, Narrow, CardFits, WiresFit, OrderFits}
use Rattle.laws.proofs.Tests.{and_left, and_right, OneOf, one, other, or_cases, every_at, all_at}

-- ---- the image

fits : (P : Program) (k : ℕ) → T (instruction_ok P k) → InstructionFits P k
unfolding instruction_ok opcode_ok format
fits P k t =
    let o = and_left (opcode_ok (P.opcode k)) _ t in
    let t1 = and_right (opcode_ok (P.opcode k)) _ t in
    let fa = field_ok P (format_of (P.opcode k)).a (P.arg_a k) in
    let fb = field_ok P (format_of (P.opcode k)).b (P.arg_b k) in
    let t2 = and_right fa _ t1 in
    record {
      least = leb→le 1 (P.opcode k) (and_left (leb 1 (P.opcode k)) _ o);
      most = leb→le (P.opcode k) 40 (and_right (leb 1 (P.opcode k)) _ o);
      a = and_left fa _ t1;
      b = and_left fb _ t2;
      c = and_right fb _ t2;
    }

handled : (P : Program) → OneOf (ltb P.handler P.rulesets) (eqb P.handler 255) → Handler P
handled P (one t) = present (ltb→lt P.handler P.rulesets t)
handled P (other t) = absent (eqb→eq P.handler 255 t)

pub accepted : (m : List ℕ) (P : Program) → T (counts_ok m P) → T (code_ok P) → Accepted P
unfolding counts_ok code_ok ruleset_ok
accepted m P t u =
    let i = leb P.inputs 8 in
    let o = leb P.outputs 8 in
    let r1 = leb 1 P.rulesets in
    let r2 = leb P.rulesets 32 in
    let hh = ltb P.handler P.rulesets in
    let h = hh || eqb P.handler 255 in
    let n1 = leb 1 P.size in
    let n2 = leb P.size 4096 in
    let count_test : ℕ → Bool = λ r. leb 1 (P.count r) && leb (P.count r) 16 in
    let t1 = and_right i _ t in
    let t2 = and_right o _ t1 in
    let t3 = and_right r1 _ t2 in
    let t4 = and_right r2 _ t3 in
    let t5 = and_right h _ t4 in
    let t6 = and_right n1 _ t5 in
    let t7 = and_right n2 _ t6 in
    let t8 = and_left (every P.rulesets count_test) _ t7 in
    let u1 = and_left (every P.rulesets (ruleset_ok P)) _ u in
    let u2 = and_right (every P.rulesets (ruleset_ok P)) _ u in
    record {
      inputs = leb→le P.inputs 8 (and_left i _ t);
      outputs = leb→le P.outputs 8 (and_left o _ t1);
      some_ruleset = leb→le 1 P.rulesets (and_left r1 _ t2);
      rulesets = leb→le P.rulesets 32 (and_left r2 _ t3);
      handler = handled P (or_cases hh (eqb P.handler 255) (and_left h _ t4));
      some_instruction = leb→le 1 P.size (and_left n1 _ t5);
      size = leb→le P.size 4096 (and_left n2 _ t6);
      some_rule = λ r k.
          leb→le 1 (P.count r) (and_left (leb 1 (P.count r)) _ (every_at P.rulesets count_test t8 r k));
      rules = λ r k.
          leb→le (P.count r) 16 (and_right (leb 1 (P.count r)) _ (every_at P.rulesets count_test t8 r k));
      entry = λ r k.
          ltb→lt (P.entry r) P.size
          (and_left (ltb (P.entry r) P.size) _ (every_at P.rulesets (ruleset_ok P) u1 r k));
      rule = λ r k h1 h2.
          ltb→lt (P.rule r k) P.size
          (every_at (P.count r) (λ j. ltb (P.rule r j) P.size)
          (and_right (ltb (P.entry r) P.size) _ (every_at P.rulesets (ruleset_ok P) u1 r h1)) k h2);
      instruction = λ k h1.
          fits P k
          (every_at P.size (instruction_ok P) (and_left (every P.size (instruction_ok P)) _ u2) k h1);
      last = and_right (every P.size (instruction_ok P)) _ u2;
    }

-- ---- how large what is read from bytes is

pub half_lt : (m : List ℕ) → Bytes m → (i : ℕ) → half m i < 65536
unfolding half
half_lt m b i =
    let x : byte m i < 256 = b.each i in
    let y : byte m (i + 1) < 256 = b.each (i + 1) in
    omega arith

pub full_lt : (m : List ℕ) → Bytes m → (i : ℕ) → full m i < 2 ^ 32
unfolding full
full_lt m b i =
    let x : half m i < 65536 = half_lt m b i in
    let y : half m (i + 2) < 65536 = half_lt m b (i + 2) in
    omega arith

pub narrow : (m : List ℕ) → Bytes m → Narrow (program m)
unfolding program
narrow m b =
    record {
      a = λ k. b.each (code_at m k + 1);
      b = λ k. half_lt m b (code_at m k + 2);
      c = λ k. full_lt m b (code_at m k + 4);
    }

-- ---- what is lent besides

pub card_fits : (card : List ℕ) → T (card_ok card) → CardFits card
unfolding card_ok
card_fits card t =
    let e : length card ≡ 40 = eqb→eq (length card) 40 (and_left (eqb (length card) 40) _ t) in
    let u = and_right (eqb (length card) 40) _ t in
    let test : ℕ → Bool = λ x. leb 1 x && leb x 65535 in
    let at : (i : ℕ) → i < 40 → T (test (get_or card i 1)) = λ i h. all_at test card 1 u i (omega (arith, e, h)) in
    record {
      long = e;
      least = λ i h. leb→le 1 (get_or card i 1) (and_left (leb 1 (get_or card i 1)) _ (at i h));
      most = λ i h. leb→le (get_or card i 1) 65535 (and_right (leb 1 (get_or card i 1)) _ (at i h));
    }

pub wires_fit : (P : Program) (w : List ℕ) → T (wires_ok P w) → WiresFit P w
unfolding wires_ok
wires_fit P w t =
    let e = eqb (length w) (65 * (P.inputs + P.outputs)) in
    record {
      long = eqb→eq (length w) (65 * (P.inputs + P.outputs)) (and_left e _ t);
      each = λ i h. every_at (P.inputs + P.outputs) (wire_ok w) (and_right e _ t) i h;
    }

pub order_fits : (P : Program) (order : List ℕ) → T (order_ok P order) → OrderFits P order
unfolding order_ok
order_fits P order t =
    let e = eqb (length order) (order_at P P.rulesets) in
    let test : ℕ → Bool = λ r. permutation (P.count r) (order_of P order r) in
    record {
      long = eqb→eq (length order) (order_at P P.rulesets) (and_left e _ t);
      each = λ r h. every_at P.rulesets test (and_right e _ t) r h;
    }
