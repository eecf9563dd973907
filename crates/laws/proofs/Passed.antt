-- A call that no number turns away has passed every test.
use mathlib.Core.Path.{◌≡◌, refl}
use mathlib.Core.Bool.{Bool, true, false}
use mathlib.Core.List.{List}
use Prim.Native.Nat.{ℕ, zero, suc}
use native.Mathlib.Omega.{arith}
use lib.Dec.{T}
use lib.ListN.{length}
use Rattle.hume.specs.Image.{program}
use Rattle.hume.specs.Refusals.{unless, length_ok, version_ok, counts_ok, code_ok, image_refusal, card_ok, limits_ok, wires_ok, order_ok}
use Rattle.hume.specs.Call.{Given, first_of, lent_refusal, refusal}

-- 0 comes of a test that passed, and of 0 after it
pub record Past (b : Bool) (later : ℕ) : Type 0 where
  pub here : T b
  pub after : later ≡ 0

past : (b : Bool) (n later : ℕ) → unless b (suc n) later ≡ 0 → Past b later
unfolding unless
past true n later e = record { here = tt; after = e }
past false n later e = absurd (omega arith)

pub record ImagePassed (m : List ℕ) : Type 0 where
  pub length : T (length_ok m)
  pub version : T (version_ok m)
  pub counts : T (counts_ok m (program m))
  pub code : T (code_ok (program m))

pub image_passed : (m : List ℕ) → image_refusal m ≡ 0 → ImagePassed m
unfolding image_refusal
image_passed m e =
    let one = past (length_ok m) 0 _ e in
    let two = past (version_ok m) 1 _ one.after in
    let three = past (counts_ok m (program m)) 2 _ two.after in
    let four = past (code_ok (program m)) 3 _ three.after in
    record { length = one.here; version = two.here; counts = three.here; code = four.here }

pub record CallPassed (g : Given) : Type 0 where
  pub image : image_refusal g.image ≡ 0
  pub card : T (card_ok g.card)
  pub limits : T (limits_ok g.limits.stack g.limits.heap (length g.stack) (length g.heap))
  pub wires : T (wires_ok (program g.image) g.wires)
  pub order : T (order_ok (program g.image) g.order)

pub record Both (m n : ℕ) : Type 0 where
  pub first : m ≡ 0
  pub second : n ≡ 0

both : (m n : ℕ) → first_of m n ≡ 0 → Both m n
unfolding first_of
both zero n e = record { first = refl; second = e }
both (suc m) n e = absurd (omega arith)

pub call_passed : (g : Given) → refusal g ≡ 0 → CallPassed g
unfolding refusal lent_refusal
call_passed g e =
    let all = both (image_refusal g.image) (lent_refusal g) e in
    let five = past (card_ok g.card) 4 _ all.second in
    let six =
    past (limits_ok g.limits.stack g.limits.heap (length g.stack) (length g.heap)) 5 _ five.after in
    let seven = past (wires_ok (program g.image) g.wires) 6 _ six.after in
    let eight = past (order_ok (program g.image) g.order) 7 _ seven.after in
    record {
      image = all.first;
      card = five.here;
      limits = six.here;
      wires = seven.here;
      order = eight.here;
    }
