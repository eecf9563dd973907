-- What two results that keep one promise have in common: they are the same.
use mathlib.Core.Path.{◌≡◌, refl, sym, ap, ◌∙◌}
use mathlib.Core.List.{List}
use Prim.Native.Nat.{ℕ, zero, suc, ◌<◌}
use native.Mathlib.Omega.{arith}
use lib.Seq.{ext_get_or}
use Rattle.std.specs.Prelude.{⊤, Result, Ok, Err}
use Rattle.gate.specs.declared.refusals.Refusal.{Refusal}
use Rattle.gate.specs.declared.refusals.Refusal.TheVariants.{Length, Version, Counts, Code, Card, Limits, Wires, Order}
use Rattle.gate.specs.Verdicts.{number}
use Rattle.gate.specs.Parts.{LaidOut}

-- the verdict of a number
verdict_of : ℕ → Result ⊤ Refusal
verdict_of zero = Ok tt
verdict_of (suc zero) = Err Length
verdict_of (suc (suc zero)) = Err Version
verdict_of (suc (suc (suc zero))) = Err Counts
verdict_of (suc (suc (suc (suc zero)))) = Err Code
verdict_of (suc (suc (suc (suc (suc zero))))) = Err Card
verdict_of (suc (suc (suc (suc (suc (suc zero)))))) = Err Limits
verdict_of (suc (suc (suc (suc (suc (suc (suc zero))))))) = Err Wires
verdict_of (suc (suc (suc (suc (suc (suc (suc (suc n)))))))) = Err Order

back : (v : Result ⊤ Refusal) → verdict_of (number v) ≡ v
unfolding verdict_of
back (Ok _) = refl
back (Err Length) = refl
back (Err Version) = refl
back (Err Counts) = refl
back (Err Code) = refl
back (Err Card) = refl
back (Err Limits) = refl
back (Err Wires) = refl
back (Err Order) = refl

-- Two verdicts with one number are the same.
pub one_verdict : (u v : Result ⊤ Refusal) → number u ≡ number v → u ≡ v
one_verdict u v e = sym (back u) ∙ ap verdict_of e ∙ back v

-- A refusal's number is not the 0 of an accepted call.
pub refusal_some : (r : Refusal) → number (Err r) ≡ 0 → ⊥
refusal_some r e = cc (one_verdict (Err r) (Ok tt) e)

-- Two layouts of one image are the same.
pub record SameLayout (a o b q : List ℕ) : Type 0 where
  pub at : a ≡ b
  pub order : o ≡ q

pub one_layout : (m a o b q : List ℕ) → LaidOut m a o → LaidOut m b q → SameLayout a o b q
one_layout m a o b q x y =
    record {
      at = ext_get_or 0 a b (x.at_length ∙ sym y.at_length) (λ k h.
          let l : k < 33 = omega (arith, x.at_length) in
          x.begins k l ∙ sym (y.begins k l));
      order = ext_get_or 0 o q (x.order_length ∙ sym y.order_length) (λ k h.
          let l : k < 33 = omega (arith, x.order_length) in
          x.ordered k l ∙ sym (y.ordered k l));
    }
