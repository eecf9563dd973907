-- Document 01, "Primitives": the 25 primitives and their cycles (001, Table 5), in one table.
use Rattle.std.specs.Prelude.{Bool, true, false, not, ◌&&◌, ◌||◌, List, [], ◌∷◌, ◌++◌, ℕ, ◌-◌, eqb, get_or}
use Rattle.std.proofs.Math.Option.{Option, none, some}
use Rattle.hume.specs.Tests.{pick}
use Rattle.hume.specs.Words.{bool_header, int_header, float_header}
use Rattle.hume.specs.Numbers.{add_int, sub_int, mul_int, div_int, mod_int, lt_int, le_int}
use Rattle.hume.specs.Numbers.{add_float, sub_float, mul_float, div_float, eq_float, lt_float, le_float, to_float, to_int}

-- what a primitive gives: the payload of its result, or an exception's number
pub data Yield : Type 0 where
  value : ℕ → Yield
  raises : ℕ → Yield

-- its cycles, the header of its operands, the header of its result, and the result from the payloads of the operands, "the
-- top word being the first operand"; with one operand the second is not looked at
pub record Primitive : Type 0 where
  pub cycles : ℕ
  pub takes : ℕ
  pub gives : ℕ
  pub yields : ℕ → ℕ → Yield

abbrev pub truth : Bool → ℕ
truth true = 1
truth false = 0

abbrev pub ints : ℕ → ℕ → (ℕ → ℕ → Yield) → Primitive
ints c h f = record { cycles = c; takes = int_header; gives = h; yields = f }

abbrev pub bools : ℕ → (ℕ → ℕ → ℕ) → Primitive
bools c f = record { cycles = c; takes = bool_header; gives = bool_header; yields = λ x y. value (f x y) }

abbrev pub floats : ℕ → ℕ → (ℕ → ℕ → Yield) → Primitive
floats c h f = record { cycles = c; takes = float_header; gives = h; yields = f }

-- "Integer zero divisor: exception 1 with None."
unfoldable pub divided : (ℕ → ℕ → ℕ) → ℕ → ℕ → Yield
divided f x y = pick (eqb y 0) (raises 1) (value (f x y))

-- "NaN or outside -2^31..2^31-1 raises exception 2 with None."
unfoldable pub converted : Option ℕ → Yield
converted none = raises 2
converted (some n) = value n

-- the Bool operations on 0 and 1
unfoldable pub is_true : ℕ → Bool
is_true x = eqb x 1

-- "One operand: 1 not 118, 2 toFloat.i 699, 3 toInt.f 2973."
unfoldable pub one_operand : List Primitive
one_operand =
    bools 118 (λ x y. truth (not (is_true x)))
    ∷ ints 699 float_header (λ x y. value (to_float x))
    ∷ floats 2973 int_header (λ x y. converted (to_int x))
    ∷ []

-- "Two: .."
unfoldable pub two_operands : List Primitive
two_operands =
    -- "1 ==.i 125, 2 !=.i 243, 3 >=.i 122, 4 >.i 124, 5 <=.i 122, 6 <.i 124,"
    ints 125 bool_header (λ x y. value (truth (eqb x y)))
    ∷ ints 243 bool_header (λ x y. value (truth (not (eqb x y))))
    ∷ ints 122 bool_header (λ x y. value (truth (le_int y x)))
    ∷ ints 124 bool_header (λ x y. value (truth (lt_int y x)))
    ∷ ints 122 bool_header (λ x y. value (truth (le_int x y)))
    ∷ ints 124 bool_header (λ x y. value (truth (lt_int x y)))
    -- "7 +.i 116, 8 -.i 116, 9 *.i 124, 10 div.i 206, 11 mod.i 1294,"
    ∷ ints 116 int_header (λ x y. value (add_int x y))
    ∷ ints 116 int_header (λ x y. value (sub_int x y))
    ∷ ints 124 int_header (λ x y. value (mul_int x y))
    ∷ ints 206 int_header (divided div_int)
    ∷ ints 1294 int_header (divided mod_int)
    -- "12 && 153, 13 or 156,"
    ∷ bools 153 (λ x y. truth (is_true x && is_true y))
    ∷ bools 156 (λ x y. truth (is_true x || is_true y))
    -- "14 ==.f 125, 15 >=.f 211, 16 >.f 209, 17 <=.f 211, 18 <.f 209,"
    ∷ floats 125 bool_header (λ x y. value (truth (eq_float x y)))
    ∷ floats 211 bool_header (λ x y. value (truth (le_float y x)))
    ∷ floats 209 bool_header (λ x y. value (truth (lt_float y x)))
    ∷ floats 211 bool_header (λ x y. value (truth (le_float x y)))
    ∷ floats 209 bool_header (λ x y. value (truth (lt_float x y)))
    -- "19 +.f 1106, 20 -.f 1112, 21 *.f 356, 22 /.f 959."
    ∷ floats 1106 float_header (λ x y. value (add_float x y))
    ∷ floats 1112 float_header (λ x y. value (sub_float x y))
    ∷ floats 356 float_header (λ x y. value (mul_float x y))
    ∷ floats 959 float_header (λ x y. value (div_float x y))
    ∷ []

-- "These are kept as one table of costs by primitive number."
unfoldable pub primitives : List Primitive
primitives = one_operand ++ two_operands

-- No image that is accepted names another number.
abbrev pub no_primitive : Primitive
no_primitive = bools 0 (λ x y. 0)

-- by number, 1..3
unfoldable pub prim1 : ℕ → Primitive
prim1 a = get_or one_operand (a - 1) no_primitive

-- by number, 1..22
unfoldable pub prim2 : ℕ → Primitive
prim2 a = get_or two_operands (a - 1) no_primitive
