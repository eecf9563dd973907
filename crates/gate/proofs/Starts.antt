-- Where the rulesets begin, read from a list of starts.
use mathlib.Core.Path.{◌≡◌, ap, subst, ◌∙◌}
use mathlib.Core.List.{List, map}
use Rattle.std.proofs.Math.ListN.{get_or-map}
use Rattle.hume.specs.Image.{Program}
use Rattle.gate.specs.Parts.{in_order, start_at}
use Rattle.gate.proofs.Lent.{Part}
use Prim.Native.Nat.{ℕ, ◌+◌, ◌<◌}
use native.Mathlib.Omega.{arith}
use borrow.Author.Count.{below_more}
use lib.ListN.{length, get_or, set}
use lib.Seq.{get_or-set_same, get_or-set_other}
use Rattle.gate.specs.declared.image.Start.{Start}

-- an entry more, where those before it are right
pub start_more : {A : Type 0} (d : A) (l : List A) (k : ℕ) (v : A) (g : A → ℕ) (f : ℕ → ℕ) → k + 1 < length l
    → ((j : ℕ) → j < k + 1 → g (get_or l j d) ≡ f j) → g v ≡ f (k + 1)
    → (j : ℕ) → j < k + 1 + 1 → g (get_or (set l (k + 1) v) j d) ≡ f j
start_more d l k v g f h old e =
    below_more (λ (j : ℕ). g (get_or (set l (k + 1) v) j d) ≡ f j) (k + 1)
    (λ j b. ap g (get_or-set_other l (k + 1) j v d (λ q. omega arith)) ∙ old j b)
    (ap g (get_or-set_same l (k + 1) v d h) ∙ e)

pub order_is : (xs : List Start) (k : ℕ) → get_or (map in_order xs) k 0 ≡ (start_at xs k).order
order_is xs k = get_or-map in_order xs k (record { image = 0; order = 0 })

pub part_at : (P : Program) (l : List ℕ) (xs : List Start) (j : ℕ)
    → Part P l (get_or (map in_order xs) j 0) (get_or (map in_order xs) (j + 1) 0) j
    → Part P l (start_at xs j).order (start_at xs (j + 1)).order j
part_at P l xs j p =
    subst (λ (a : ℕ). Part P l a (start_at xs (j + 1)).order j) (order_is xs j)
    (subst (λ (b : ℕ). Part P l (get_or (map in_order xs) j 0) b j) (order_is xs (j + 1)) p)
