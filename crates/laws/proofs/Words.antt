-- Laws of words and of their 32 bits.
use mathlib.Core.Path.{◌≡◌, refl}
use Prim.Native.Nat.{ℕ}
use native.Mathlib.Omega.{arith}
use lib.Dec.{T, eqb, eqb→eq}
use Rattle.hume.specs.Words.{Word, bits, null, ref, none, raw, is_null, is_ref, is_none, is_value}
use Rattle.laws.proofs.Tests.{and_left, and_right, OneOf, one, other, or_cases}

pub word_eq : (v w : Word) → v.type ≡ w.type → v.payload ≡ w.payload → v ≡ w
word_eq v w t p = λ i. record { type = t i; payload = p i }

-- The 32 bits of a number that stands on the heap are the number.
pub bits_raw : (n : ℕ) → bits (raw n) ≡ n
unfolding bits raw
bits_raw n = omega arith

-- ---- the tests as facts

pub ref_is : (w : Word) → T (is_ref w) → w ≡ ref w.payload
unfolding is_ref
ref_is w t = word_eq w (ref w.payload) (eqb→eq w.type 1 t) refl

pub none_is : (w : Word) → T (is_none w) → w ≡ none
unfolding is_none
none_is w t =
    word_eq w none (eqb→eq w.type 2 (and_left (eqb w.type 2) _ t))
    (eqb→eq w.payload 0 (and_right (eqb w.type 2) _ t))

pub null_is : (w : Word) → T (is_null w) → w ≡ null
unfolding is_null
null_is w t =
    word_eq w null (eqb→eq w.type 0 (and_left (eqb w.type 0) _ t))
    (eqb→eq w.payload 0 (and_right (eqb w.type 0) _ t))

-- a reference or None
pub data ValueWord (w : Word) : Type 0 where
  refers : w ≡ ref w.payload → ValueWord w
  nothing : w ≡ none → ValueWord w

pub value_word : (w : Word) → T (is_value w) → ValueWord w
unfolding is_value
value_word w t = by (or_cases (is_ref w) (is_none w) t)
  where
    by : OneOf (is_ref w) (is_none w) → ValueWord w
    by (one r) = refers (ref_is w r)
    by (other n) = nothing (none_is w n)
