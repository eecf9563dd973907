-- A machine that counts down: each turn takes two units of time, its depth is the count, and it fills the heap by one.
-- The run under limits is computed.
use mathlib.Core.Path.{◌≡◌, refl}
use Prim.Native.Nat.{ℕ, zero, suc, ◌^◌}
use Rattle.limits.specs.Machine.{Act, ends, goes, Machine, Run, fresh, Limits, Time, Stack, Heap, ended, stopped}
use Rattle.limits.specs.Machine.{turns, limited}
use Rattle.limits.specs.Demand3.{Demand3}
use Rattle.limits.proofs.Demand3.{demand3}

record Count : Type 0 where
  left : ℕ
  filled : ℕ

abbrev at : ℕ → ℕ → Count
at n m = record { left = n; filled = m }

abbrev down : ℕ → ℕ → Act Count ℕ
down zero m = ends m
down (suc n) m = goes 2 (at n (suc m))

abbrev counter : Machine Count ℕ
counter = record { act = λ c. down c.left c.filled; depth = λ c. c.left; heap = λ c. c.filled }

abbrev under : ℕ → ℕ → ℕ → Limits
under t s h = record { time = t; stack = s; heap = h }

abbrev stands : ℕ → ℕ → ℕ → ℕ → ℕ → Run Count
stands n m k t d = record { state = at n m; steps = k; time = t; peak = d }

counts : limited counter (under 20 9 9) (fresh (at 5 0)) ≡ ended 5 (stands 0 5 5 10 4)
unfolding limited
counts = refl

-- turns that are not needed cost nothing
many_turns : turns counter (2 ^ 32) (under 20 9 9) (fresh (at 5 0)) ≡ ended 5 (stands 0 5 5 10 4)
unfolding turns
many_turns = refl

-- exactly its figures are enough, and one less of each names it
just_enough : limited counter (under 10 4 5) (fresh (at 5 0)) ≡ ended 5 (stands 0 5 5 10 4)
unfolding limited
just_enough = refl

no_time : limited counter (under 9 4 5) (fresh (at 5 0)) ≡ stopped Time (stands 1 4 4 8 4)
unfolding limited
no_time = refl

no_stack : limited counter (under 10 3 5) (fresh (at 5 0)) ≡ stopped Stack (stands 5 0 0 0 0)
unfolding limited
no_stack = refl

no_heap : limited counter (under 10 4 4) (fresh (at 5 0)) ≡ stopped Heap (stands 1 4 4 8 4)
unfolding limited
no_heap = refl

-- an instruction that breaks all three names the first, and one that breaks stack and heap the stack
time_first : limited counter (under 1 3 0) (fresh (at 5 0)) ≡ stopped Time (stands 5 0 0 0 0)
unfolding limited
time_first = refl

stack_first : limited counter (under 2 3 0) (fresh (at 5 0)) ≡ stopped Stack (stands 5 0 0 0 0)
unfolding limited
stack_first = refl

many : limited counter (under 3000 1000 1000) (fresh (at 1000 0)) ≡ ended 1000 (stands 0 1000 1000 2000 999)
unfolding limited
many = refl

of_it : Demand3 counter
of_it = demand3 counter
