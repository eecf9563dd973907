-- The loop: from one turn to the next, and to its end.
use mathlib.Core.Path.{◌≡◌, refl, ap, sym, subst, ◌∙◌}
use Rattle.std.specs.Prelude.{Option, Some, None}
use Rattle.std.proofs.lemmas.Option.{none-some}
use mathlib.Core.List.{List}
use Prim.Native.Nat.{ℕ, ◌<◌}
use lib.ListN.{length}
use Rattle.hume.specs.Image.{program}
use Rattle.hume.specs.Machine.{machine}
use Rattle.hume.specs.Call.{Given}
use Rattle.engine.specs.Turns.{Buffers, Meets}
use Rattle.engine.specs.Running.{Bounds, Going, Over}
use Rattle.engine.specs.Ready.{Ready}
use Rattle.engine.specs.Underway.{Underway, calls}
use Rattle.engine.specs.declared.Ending.{Ending}
use Rattle.engine.specs.Limits.{up_to}
use Rattle.engine.specs.declared.regs.Regs.{Regs}
use Rattle.engine.specs.declared.regs.Turn.{Turn}
use Rattle.engine.proofs.Going.{Next, on, over, turned}
use Rattle.engine.proofs.Standing.{ready}

some_is : {x y : Ending} → Some x ≡ Some y → x ≡ y
some_is {x} e = ap (λ (o : Option Ending). get x o) e
  where
    get : Ending → Option Ending → Ending
    get x None = x
    get x (Some y) = y

-- a run that is under way and goes on
pub record On (g : Given) (r : Regs) (q : Regs) (b : Buffers) : Type 0 where
  pub going : Going g q b
  pub less : q.left < r.left

module _ {m card : List ℕ} {s₀ : Regs} {b₀ : Buffers} (u : Underway m card s₀ b₀) {s : Regs} {b : Buffers}
    (w : Going (calls m card u.limits u.lent) s b) (ls : length b.stack ≡ length b₀.stack) (lh : length b.heap ≡ length b₀.heap)
  where
    -- the areas are as long as the limits
    bounds : Bounds (calls m card u.limits u.lent) (up_to (length b.stack) (length b.heap))
    bounds = record { stack = ls ∙ u.bounds.stack; heap = lh ∙ u.bounds.heap; time = u.bounds.time }

    -- the step may be taken
    pub may_step : Ready (program m) s b
    may_step = ready (calls m card u.limits u.lent) u.allowed bounds w u.typed refl refl

    module _ (q : Turn) (b' : Buffers) (t : Meets (up_to (length b.stack) (length b.heap)) s b (machine (program m) card).act q b') where
      next : Next (calls m card u.limits u.lent) s q b'
      next = turned (calls m card u.limits u.lent) u.allowed u.typed bounds w q b' t

      pub going_on : ((e : Ending) → q.ending ≡ Some e → ⊥) → On (calls m card u.limits u.lent) s q.regs b'
      going_on e = by next
        where
          by : Next (calls m card u.limits u.lent) s q b' → On (calls m card u.limits u.lent) s q.regs b'
          by (on p v l) = record { going = v; less = l }
          by (over x p v) = absurd (e x p)

      pub is_over : (e : Ending) → q.ending ≡ Some e → Over (calls m card u.limits u.lent) q.regs e b'
      is_over e k = by next
        where
          by : Next (calls m card u.limits u.lent) s q b' → Over (calls m card u.limits u.lent) q.regs e b'
          by (on p v l) = absurd (none-some e (sym p ∙ k))
          by (over x p v) =
              subst (λ (y : Ending). Over (calls m card u.limits u.lent) q.regs y b') (some_is (sym p ∙ k)) v
