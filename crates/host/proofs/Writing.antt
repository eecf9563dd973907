-- The figures in the order they are written.
use Rattle.std.proofs.Common.{◌≡◌, ℕ, zero, suc, ◌≤◌, ◌<◌, List, [], ◌∷◌, ◌++◌, true, false, length, take, drop, refl, sym, ap, ◌∙◌, arith}
use Rattle.std.specs.Prelude.{⊤, Result, Ok, Err, is_ok}
use Rattle.std.proofs.Math.ListN.{set}
use Rattle.std.proofs.lemmas.List.Edits.{sets}
use Rattle.hume.specs.Call.{Figures, Answer}
use Rattle.gate.specs.declared.refusals.Refusal.{Refusal}
use Rattle.gate.specs.Verdicts.{number}
use Rattle.gate.proofs.Unique.{refusal_some}
use Rattle.engine.specs.Reports.{reported, eight, told}
use Rattle.engine.specs.declared.Report.{Report}
use Rattle.engine.specs.Turns.{Buffers}
use Rattle.host.specs.Told.{recorded_by, recorded}

-- nothing past the end
sets_none : (xs : List ℕ) (i : ℕ) → sets [] i xs ≡ []
sets_none [] i = refl
sets_none (a ∷ xs) i = sets_none xs (suc i)

sets_behind : (x : ℕ) (l xs : List ℕ) (i : ℕ) → sets (x ∷ l) (suc i) xs ≡ x ∷ sets l i xs
sets_behind x l [] i = refl
sets_behind x l (a ∷ xs) i = sets_behind x (set l i a) xs (suc i)

-- as many of xs as there is room for
pub room : (l xs : List ℕ) (n : ℕ) → n ≤ length l → n ≤ length xs → (n < length l → length xs ≤ n)
    → take n xs ++ drop n l ≡ sets l 0 xs
room [] [] zero h k w = refl
room [] (a ∷ xs) zero h k w = sym (sets_none (a ∷ xs) 0)
room (x ∷ l) [] zero h k w = refl
room (x ∷ l) (a ∷ xs) zero h k w = absurd (omega (arith, w (omega arith)))
room [] xs (suc n) h k w = absurd (omega arith)
room (x ∷ l) [] (suc n) h k w = absurd (omega arith)
room (x ∷ l) (a ∷ xs) (suc n) h k w =
    ap (λ (t : List ℕ). a ∷ t) (room l xs n (omega arith) (omega arith) (λ q. omega (arith, w (omega arith))))
    ∙ sym (sets_behind a l xs 0)

-- of an accepted call they are written, of a refused one not
pub written : (v : Result ⊤ Refusal) (f : Figures) (l : List ℕ) → is_ok v ≡ true → sets l 0 (eight f) ≡ recorded_by (number v) f l
unfolding recorded_by
written (Ok _) f l e = refl
written (Err r) f l e = cc

pub kept : (v : Result ⊤ Refusal) (f : Figures) (l : List ℕ) → is_ok v ≡ false → l ≡ recorded_by (number v) f l
unfolding recorded_by
kept (Ok _) f l e = cc
kept (Err r) f l e = by (number (Err r)) (refusal_some r)
  where
    by : (n : ℕ) → (n ≡ 0 → ⊥) → l ≡ recorded_by n f l
    by zero h = absurd (h refl)
    by (suc n) h = refl

-- An answer's parts, from the answer.
module _ (r : Report) (b : Buffers) (a : Answer) (e : told r b ≡ a) where
  pub refusal_told : number r.verdict ≡ a.refusal
  unfolding told
  refusal_told = ap (λ (x : Answer). x.refusal) e

  pub stack_told : b.stack ≡ a.stack
  unfolding told
  stack_told = ap (λ (x : Answer). x.stack) e

  pub heap_told : b.heap ≡ a.heap
  unfolding told
  heap_told = ap (λ (x : Answer). x.heap) e

  pub wires_told : b.wires ≡ a.wires
  unfolding told
  wires_told = ap (λ (x : Answer). x.wires) e

  pub order_told : b.order ≡ a.order
  unfolding told
  order_told = ap (λ (x : Answer). x.order) e

  pub recorded_told : (l : List ℕ) → recorded_by (number r.verdict) (reported r) l ≡ recorded a l
  unfolding told recorded
  recorded_told l = ap (λ (x : Answer). recorded_by x.refusal x.figures l) e
