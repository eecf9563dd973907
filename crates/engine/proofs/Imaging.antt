-- Laws of an accepted image: each place that is read lies inside it.
use mathlib.Core.Path.{◌≡◌, refl, sym, ap, ◌∙◌}
use mathlib.Core.List.{List}
use Prim.Native.Nat.{ℕ, ◌+◌, ◌*◌, ◌≤◌, ◌<◌}
use native.Mathlib.Omega.{arith}
use lib.ListN.{length, get_or}
use Rattle.hume.specs.Image.{program, byte, half, full, ruleset_at, code_at}
use Rattle.laws.specs.Accepted.{Handler, absent, present}
use Rattle.laws.proofs.Orders.{stretches}
use Rattle.gate.specs.declared.image.Start.{Start}
use Rattle.gate.specs.Parts.{start_at}
use Rattle.engine.specs.Fits.{Imaged, Located}

-- ---- the tables of the rulesets

-- a ruleset's table ends before a later one begins
tables : (m : List ℕ) (r q : ℕ) → r < q → ruleset_at m r + (3 + 2 * byte m (ruleset_at m r + 2)) ≤ ruleset_at m q
unfolding ruleset_at
tables m = stretches (ruleset_at m) (λ r. 3 + 2 * byte m (ruleset_at m r + 2)) (λ q. omega arith)

module _ {m : List ℕ} (i : Imaged m) where
  -- the table of a ruleset lies in the image
  pub table_room : (r : ℕ) → r < (program m).rulesets → ruleset_at m r + 3 + 2 * (program m).count r ≤ length m
  unfolding program code_at
  table_room r h =
      let a : ruleset_at m r + (3 + 2 * byte m (ruleset_at m r + 2)) ≤ ruleset_at m (byte m 7) = tables m r (byte m 7) h in
      let b : ruleset_at m (byte m 7) + 8 * half m 9 ≡ length m = i.long in
      omega arith

  -- an entry, a rule and an opcode are in their ranges
  pub entry_small : (r : ℕ) → r < (program m).rulesets → (program m).entry r < 4096
  entry_small r h =
      let a : (program m).entry r < (program m).size = i.accepted.entry r h in
      let b : (program m).size ≤ 4096 = i.accepted.size in
      omega arith

  pub rule_small : (r k : ℕ) → r < (program m).rulesets → k < (program m).count r → (program m).rule r k < 4096
  rule_small r k h l =
      let a : (program m).rule r k < (program m).size = i.accepted.rule r k h l in
      let b : (program m).size ≤ 4096 = i.accepted.size in
      omega arith

-- ---- what is found once

module _ {m : List ℕ} (i : Imaged m) where
  pub rulesets_most : get_or m 7 0 ≤ 32
  unfolding byte program
  rulesets_most = i.accepted.rulesets

  pub handler_below : {h : ℕ} → h ≡ get_or m 8 0 → (h ≡ 255 → ⊥) → h < (program m).rulesets
  unfolding byte program
  handler_below {h} e n = by i.accepted.handler
    where
      by : Handler (program m) → h < (program m).rulesets
      by (absent p) = absurd (n (e ∙ p))
      by (present p) = omega (arith, e, p)

  -- where the instructions begin
  pub begins : {starts : List Start} → Located m starts → (start_at starts (get_or m 7 0)).image ≡ code_at m 0
  unfolding byte code_at
  begins l = l.places (get_or m 7 0) (let x = rulesets_most in omega arith) ∙ omega arith

  -- they fill the rest of the image
  pub fills : {starts : List Start} → Located m starts
      → (start_at starts (get_or m 7 0)).image + 8 * (program m).size ≡ length m
  unfolding code_at
  fills l = let a = begins l in let b = i.long in omega arith

-- the bytes that are read of it
pub inputs_is : (m : List ℕ) → get_or m 5 0 ≡ (program m).inputs
unfolding byte program
inputs_is m = refl

pub outputs_is : (m : List ℕ) → get_or m 6 0 ≡ (program m).outputs
unfolding byte program
outputs_is m = refl

pub handler_is : (m : List ℕ) → (program m).handler ≡ get_or m 8 0
unfolding byte program
handler_is m = refl

-- where the instruction k begins
pub code_at_lem : (m : List ℕ) (k : ℕ) → code_at m k ≡ code_at m 0 + 8 * k
unfolding code_at
code_at_lem m k = omega arith

-- ---- what is read of a ruleset, by way of the table of places

module _ {m : List ℕ} {starts : List Start} (i : Imaged m) (l : Located m starts) (r : ℕ) (h : r < (program m).rulesets) where
  placed_at : (start_at starts r).image ≡ ruleset_at m r
  placed_at =
      let a : (program m).rulesets ≤ 32 = i.accepted.rulesets in
      l.places r (omega arith)

  pub place_room : (start_at starts r).image + 3 + 2 * (program m).count r ≤ length m
  place_room = rw placed_at (table_room i r h)

  pub entry_at : half m ((start_at starts r).image) ≡ (program m).entry r
  unfolding program
  entry_at = ap (half m) placed_at

  pub count_at : get_or m ((start_at starts r).image + 2) 0 ≡ (program m).count r
  unfolding program byte
  count_at = ap (λ (x : ℕ). get_or m (x + 2) 0) placed_at

  pub rule_at_lem : (k : ℕ) → half m ((start_at starts r).image + 3 + 2 * k) ≡ (program m).rule r k
  unfolding program
  rule_at_lem k = ap (λ (x : ℕ). half m (x + 3 + 2 * k)) placed_at

-- ---- what is read of an instruction

module _ (m : List ℕ) (c k : ℕ) (e : c ≡ code_at m 0) where
  start : c + 8 * k ≡ code_at m k
  start = ap (λ (x : ℕ). x + 8 * k) e ∙ sym (code_at_lem m k)

  pub opcode_is : get_or m (c + 8 * k) 0 ≡ (program m).opcode k
  unfolding program byte
  opcode_is = ap (λ (x : ℕ). get_or m x 0) start

  pub a_is : get_or m (c + 8 * k + 1) 0 ≡ (program m).arg_a k
  unfolding program byte
  a_is = ap (λ (x : ℕ). get_or m (x + 1) 0) start

  pub b_is : half m (c + 8 * k + 2) ≡ (program m).arg_b k
  unfolding program
  b_is = ap (λ (x : ℕ). half m (x + 2)) start

  pub c_is : full m (c + 8 * k + 4) ≡ (program m).arg_c k
  unfolding program
  c_is = ap (λ (x : ℕ). full m (x + 4)) start
