-- Laws of plain words: what their payloads are, and that they stay plain as the heap grows.
use mathlib.Core.Path.{◌≡◌, refl, ap, subst}
use mathlib.Core.List.{List}
use Prim.Native.Nat.{ℕ, zero, suc, ◌+◌, ◌*◌, ◌/◌, ◌%◌, ◌≤◌, ◌<◌}
use native.Mathlib.Omega.{arith}
use lib.Dec.{T}
use Rattle.hume.specs.Words.{Word, null, is_ref, is_value}
use Rattle.hume.specs.Image.{Program}
use Rattle.laws.specs.Accepted.{Accepted}
use Rattle.laws.specs.Whole.{Whole, Held, none_held, ref_held}
use Rattle.laws.proofs.Words.{ValueWord, refers, nothing, value_word, ref_is}
use Rattle.reach.specs.Sound.{Plain, is_null, is_none, is_ret, is_rules, is_static}

-- Null is plain.
pub null_plain : (P : Program) (hs : List Word) → Plain P hs null
null_plain P hs = is_null refl

-- ---- another heap that has the same whole objects

-- What is whole on the one is whole on the other.
abbrev pub Grows : List Word → List Word → Type 0
Grows hs gs = (p : ℕ) → Whole hs p → Whole gs p

-- A plain word stays plain.
pub plain_grows : (P : Program) (hs gs : List Word) → Grows hs gs → (w : Word) → Plain P hs w → Plain P gs w
plain_grows P hs gs g w (is_null e) = is_null e
plain_grows P hs gs g w (Plain.is_ref p e h) = Plain.is_ref p e (g p h)
plain_grows P hs gs g w (is_none e) = is_none e
plain_grows P hs gs g w (is_ret p e h) = is_ret p e h
plain_grows P hs gs g w (is_rules r k e h j) = is_rules r k e h j
plain_grows P hs gs g w (is_static p e) = is_static p e

-- ---- what the payload is

-- a ruleset, and a place in its order
record Rules (P : Program) (p : ℕ) : Type 0 where
  r : ℕ
  k : ℕ
  is : p ≡ r * 256 + k
  inside : r < P.rulesets
  place : k ≤ P.count r

-- of a word of the type t: the place of a whole object, an address, a ruleset and a place in its order
abbrev Content : Program → List Word → ℕ → ℕ → Type 0
Content P hs zero p = Unit {0}
Content P hs (suc zero) p = Whole hs p
Content P hs (suc (suc zero)) p = Unit {0}
Content P hs (suc (suc (suc zero))) p = p < P.size
Content P hs (suc (suc (suc (suc zero)))) p = Rules P p
Content P hs (suc (suc (suc (suc (suc t))))) p = Unit {0}

-- The two as Return reads them.
pub record Ruled (P : Program) (p : ℕ) : Type 0 where
  pub rs : p / 256 < P.rulesets
  pub rp : p % 256 ≤ P.count (p / 256)

ruled : (P : Program) → Accepted P → (p : ℕ) → Rules P p → Ruled P p
ruled P acc p w =
    let c : P.count w.r ≤ 16 = acc.rules w.r w.inside in
    let k : w.k ≤ P.count w.r = w.place in
    let e : p ≡ w.r * 256 + w.k = w.is in
    let q : p / 256 ≡ w.r = omega arith in
    let z : p % 256 ≡ w.k = omega arith in
    record { rs = rw q w.inside; rp = rw (z, q) w.place }

module _ (P : Program) (hs : List Word) (w : Word) where
  content : Plain P hs w → Content P hs w.type w.payload
  content (is_null e) = rw e tt
  content (Plain.is_ref p e o) = rw e o
  content (is_none e) = rw e tt
  content (is_ret p e l) = rw e l
  content (is_rules r k e l m) = rw e (record { r = r; k = k; is = refl; inside = l; place = m })
  content (is_static p e) = rw e tt

  content_of : (t : ℕ) → Plain P hs w → w.type ≡ t → Content P hs t w.payload
  content_of t p e = subst (λ (k : ℕ). Content P hs k w.payload) e (content p)

  -- A plain return address is an address.
  pub plain_ret : Plain P hs w → w.type ≡ 3 → w.payload < P.size
  plain_ret p e = content_of 3 p e

  -- A plain ruleset word has a ruleset and a place in its order.
  pub plain_rules : Accepted P → Plain P hs w → w.type ≡ 4 → Ruled P w.payload
  plain_rules acc p e = ruled P acc w.payload (content_of 4 p e)

  -- The object that a plain reference refers to is whole.
  pub plain_whole : Plain P hs w → T (is_ref w) → Whole hs w.payload
  plain_whole p t = content_of 1 p (ap (λ (x : Word). x.type) (ref_is w t))

  -- A plain word that is a reference or None is held by the heap.
  pub plain_held : Plain P hs w → T (is_value w) → Held hs w
  plain_held p t = by (value_word w t)
    where
      by : ValueWord w → Held hs w
      by (refers e) = ref_held w.payload e (content_of 1 p (ap (λ (x : Word). x.type) e))
      by (nothing e) = none_held e

-- What the heap holds is plain.
pub held_plain : (P : Program) (hs : List Word) (w : Word) → Held hs w → Plain P hs w
held_plain P hs w (none_held e) = is_none e
held_plain P hs w (ref_held p e o) = Plain.is_ref p e o
