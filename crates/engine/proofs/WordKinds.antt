-- What 32 bits say of the word that they are.
use mathlib.Core.Path.{◌≡◌, refl, sym, ap, ◌∙◌, subst}
use mathlib.Core.Bool.{Bool, true, false, ◌&&◌, ◌||◌}
use mathlib.Core.List.{List}
use Prim.Native.Nat.{ℕ, ◌+◌, ◌*◌, ◌/◌, ◌%◌, ◌^◌, ◌<◌}
use native.Mathlib.Omega.{arith}
use Rattle.std.proofs.Common.{rules, tests}
use lib.Dec.{T, eqb, eqb→eq}
use lib.ListN.{length, get_or}
use borrow.Author.Tests.{eq-eqb, ne_eqb}
use Rattle.std.specs.Prelude.{Option, Some, None}
use Rattle.hume.specs.Words.{Word, null, none, bits, is_null, is_ref, is_none, is_value}
use Rattle.hume.specs.State.{number_at, is_cell, second}
use Rattle.laws.specs.Sizes.{Small}
use Rattle.laws.proofs.Tests.{and_both, eqb_of}
use Rattle.laws.proofs.Words.{none_is, null_is}
use Rattle.engine.specs.Kinds.{place_of}
use Rattle.engine.specs.Turns.{Bears}

-- two tests of which each passes where the other does
pub same_test : (a b : Bool) → (T a → T b) → (T b → T a) → a ≡ b
same_test true true f g = refl
same_test true false f g = absurd (f tt)
same_test false true f g = absurd (g tt)
same_test false false f g = refl

-- a test that is false
pub not_so : {b : Bool} → b ≡ false → T b → ⊥
not_so e t = subst T e t

-- ---- type and payload

pub bits_none : bits none ≡ 536870912
unfolding bits
bits_none = omega arith

pub bits_null : bits null ≡ 0
unfolding bits
bits_null = omega arith

-- the place that they are a reference to
pub place_none : (x : ℕ) {o : Option ℕ} → o ≡ place_of x → o ≡ None → x / 2 ^ 28 ≡ 1 → ⊥
place_none x e n k = grind (arith, tests)

pub place_some : (x : ℕ) {o : Option ℕ} {p : ℕ} → o ≡ place_of x → o ≡ Some p → (x / 2 ^ 28 ≡ 1) × (p ≡ x % 2 ^ 28)
place_some x {o} {p} e s = search (rules, tests)

-- of a word of any size
pub low_byte : {n : ℕ} (w : Word) → n ≡ bits w → n % 256 ≡ w.payload % 256
unfolding bits
low_byte w e =
    let z : (w.type * 2 ^ 28 + w.payload) % 256 ≡ w.payload % 256 = omega arith in
    ap (λ (x : ℕ). x % 256) e ∙ z

module _ {n : ℕ} {w : Word} (e : n ≡ bits w) (s : Small w) where
  pub type_is : n / 2 ^ 28 ≡ w.type
  unfolding bits
  type_is =
      let p : w.payload < 2 ^ 28 = s.payload in
      let z : (w.type * 2 ^ 28 + w.payload) / 2 ^ 28 ≡ w.type = omega arith in
      ap (λ (x : ℕ). x / 2 ^ 28) e ∙ z

  pub payload_is : n % 2 ^ 28 ≡ w.payload
  unfolding bits
  payload_is =
      let p : w.payload < 2 ^ 28 = s.payload in
      let z : (w.type * 2 ^ 28 + w.payload) % 2 ^ 28 ≡ w.payload = omega arith in
      ap (λ (x : ℕ). x % 2 ^ 28) e ∙ z

  -- ---- the kinds, by tests of the bits

  pub ref_test : is_ref w ≡ eqb (n / 2 ^ 28) 1
  unfolding is_ref
  ref_test = ap (λ (x : ℕ). eqb x 1) (sym type_is)

  pub none_test : is_none w ≡ eqb n 536870912
  unfolding is_none
  none_test =
      same_test (is_none w) (eqb n 536870912)
      (λ t. eqb_of n 536870912 (e ∙ ap bits (none_is w t) ∙ bits_none))
      (λ t.
      let z : n ≡ 536870912 = eqb→eq n 536870912 t in
      let a = type_is in
      let b = payload_is in
      and_both (eqb w.type 2) (eqb w.payload 0) (eqb_of w.type 2 (omega arith))
      (eqb_of w.payload 0 (omega arith)))

  pub null_test : is_null w ≡ eqb n 0
  unfolding is_null
  null_test =
      same_test (is_null w) (eqb n 0)
      (λ t. eqb_of n 0 (e ∙ ap bits (null_is w t) ∙ bits_null))
      (λ t.
      let z : n ≡ 0 = eqb→eq n 0 t in
      let a = type_is in
      let b = payload_is in
      and_both (eqb w.type 0) (eqb w.payload 0) (eqb_of w.type 0 (omega arith))
      (eqb_of w.payload 0 (omega arith)))

  pub value_test : is_value w ≡ (eqb (n / 2 ^ 28) 1 || eqb n 536870912)
  unfolding is_value
  value_test =
      ap (λ (x : Bool). x || is_none w) ref_test ∙ ap (λ (x : Bool). eqb (n / 2 ^ 28) 1 || x) none_test

  -- ---- the same as facts

  pub ref_yes : n / 2 ^ 28 ≡ 1 → is_ref w ≡ true
  ref_yes k = ref_test ∙ eq-eqb (n / 2 ^ 28) 1 k

  pub ref_no : (n / 2 ^ 28 ≡ 1 → ⊥) → is_ref w ≡ false
  ref_no k = ref_test ∙ ne_eqb (n / 2 ^ 28) 1 k

  pub value_ref : n / 2 ^ 28 ≡ 1 → is_value w ≡ true
  value_ref k = value_test ∙ ap (λ (x : Bool). x || eqb n 536870912) (eq-eqb (n / 2 ^ 28) 1 k)

  pub value_else : (n / 2 ^ 28 ≡ 1 → ⊥) → is_value w ≡ eqb n 536870912
  value_else k = value_test ∙ ap (λ (x : Bool). x || eqb n 536870912) (ne_eqb (n / 2 ^ 28) 1 k)

  -- "null, a reference or None"
  pub plain_null : n ≡ 0 → (is_null w || is_value w) ≡ true
  plain_null k = ap (λ (x : Bool). x || is_value w) (null_test ∙ eq-eqb n 0 k)

  pub plain_else : (n ≡ 0 → ⊥) → (is_null w || is_value w) ≡ is_value w
  plain_else k = ap (λ (x : Bool). x || is_value w) (null_test ∙ ne_eqb n 0 k)

  -- ---- the cell that the word refers to

  pub cell_no : (hs : List Word) (k : ℕ) → (n / 2 ^ 28 ≡ 1 → ⊥) → is_cell hs w k ≡ false
  unfolding is_cell
  cell_no hs k z = ap (λ (x : Bool). x && eqb (number_at hs w.payload 0) k) (ref_no z)

  pub number_is : {he : List ℕ} {hs : List Word} (j : ℕ) → Bears he hs → n % 2 ^ 28 + j < length hs
      → number_at hs w.payload j ≡ get_or he (n % 2 ^ 28 + j) 0
  unfolding number_at
  number_is {he} {hs} j b k =
      ap (λ (x : ℕ). bits (get_or hs (x + j) null)) (sym payload_is) ∙ sym (b.get (n % 2 ^ 28 + j) k)

  pub cell_is_lem : {he : List ℕ} {hs : List Word} (k : ℕ) → n / 2 ^ 28 ≡ 1 → Bears he hs → n % 2 ^ 28 < length hs
      → is_cell hs w k ≡ eqb (get_or he (n % 2 ^ 28) 0) k
  unfolding is_cell
  cell_is_lem {he} {hs} k z b m =
      let i : n % 2 ^ 28 + 0 ≡ n % 2 ^ 28 = omega arith in
      ap (λ (x : Bool). x && eqb (number_at hs w.payload 0) k) (ref_yes z)
      ∙ ap (λ (x : ℕ). eqb x k) (number_is 0 b (omega arith) ∙ ap (λ (x : ℕ). get_or he x 0) i)

  pub second_is : {he : List ℕ} {hs : List Word} → Bears he hs → n % 2 ^ 28 + 1 < length hs
      → second hs w ≡ get_or he (n % 2 ^ 28 + 1) 0
  unfolding second
  second_is b k = number_is 1 b k
