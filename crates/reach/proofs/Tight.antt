-- A state within the caps after n instructions, and the shapes of effects that lead from one to another.
use mathlib.Core.Path.{◌≡◌, refl}
use mathlib.Core.List.{List, [], ◌++◌}
use Prim.Native.Nat.{ℕ, suc, ◌+◌, ◌≤◌}
use native.Mathlib.Omega.{arith}
use lib.ListN.{length}
use Rattle.hume.specs.Words.{Word, ref}
use Rattle.hume.specs.Image.{Program}
use Rattle.hume.specs.State.{State, sp, hp, Effect, stacks, builds, fails}
use Rattle.hume.specs.Instructions.{moved}
use Rattle.hume.specs.Machine.{becomes}
use Rattle.laws.specs.Accepted.{Words32}
use Rattle.laws.specs.Sizes.{Small}
use Rattle.reach.proofs.Lists.{through_append}
use Rattle.reach.proofs.Deeds.{Each, each_fails}
use Rattle.reach.proofs.Fine.{Fine, Fines, Smalls, fine_word, fines_push, smalls_nil}

-- After n instructions: stack and heap within the caps, and no number wider than its register or word.
pub record Tight (n : ℕ) (s : State) : Type 0 where
  pub sp : sp s ≤ 4096
  pub hp : hp s ≤ 16384
  pub slp : s.regs.slp ≤ 4097
  pub mp : s.regs.mp ≤ n
  pub inp : s.regs.inp ≤ n
  pub stack : Fines s.stack
  pub heap : Smalls s.heap
  pub wires : Words32 s.wires

module _ (n : ℕ) (s : State) (ok : Tight n s) where
  -- Where stack and heap are still within the caps, the state after one instruction more is.
  abbrev pub Stays : ℕ → Effect → Type 0
  Stays c f = length f.stack ≤ 4096 → length (s.heap ++ f.grown) ≤ 16384 → Tight (suc n) (becomes s f)

  -- any effect whose parts are
  pub effect_tight : (f : Effect) → f.regs.slp ≤ 4097 → f.regs.mp ≤ suc n → f.regs.inp ≤ suc n → Fines f.stack
      → Smalls f.grown → Words32 f.wires → (c : ℕ) → Stays c f
  effect_tight f a b c g h w k =
      λ x y.
      record {
        sp = x;
        hp = y;
        slp = a;
        mp = b;
        inp = c;
        stack = g;
        heap = through_append Small s.heap f.grown ok.heap h;
        wires = w;
      }

  -- mp and inp that are moved on by 1 at most, and slp and the heap left
  pub turns_tight : (f : Effect) → f.regs.slp ≡ s.regs.slp → f.regs.mp ≤ s.regs.mp + 1
      → f.regs.inp ≤ s.regs.inp + 1 → Fines f.stack → f.grown ≡ [] → Words32 f.wires → (c : ℕ) → Stays c f
  turns_tight f a b c g e w k =
      let slp : s.regs.slp ≤ 4097 = ok.slp in
      let mp : s.regs.mp ≤ n = ok.mp in
      let inp : s.regs.inp ≤ n = ok.inp in
      effect_tight f (omega arith) (omega arith) (omega arith) g (rw e smalls_nil) w k

  -- a new stack
  pub stacks_tight : (ws : List Word) → Fines ws → Each Stays (stacks s ws)
  stacks_tight ws f = turns_tight _ refl (omega arith) (omega arith) f refl ok.wires 0

  -- the reference to the end of the heap
  pub fine_end : Fine (ref (hp s))
  fine_end =
      let h : hp s ≤ 16384 = ok.hp in
      fine_word 1 (hp s) (omega arith) (omega arith) (omega arith)

  -- a new object
  pub builds_tight : (c : ℕ) (ws g : List Word) → Fines ws → Smalls g → Each Stays (builds s c ws g)
  builds_tight c ws g f h =
      let mp : s.regs.mp ≤ n = ok.mp in
      let inp : s.regs.inp ≤ n = ok.inp in
      effect_tight _ ok.slp (omega arith) (omega arith) (fines_push ws (ref (hp s)) f fine_end) h ok.wires c

  -- a failed match
  pub fails_tight : (P : Program) (m i : ℕ) → m ≤ 1 → i ≤ 1 → Each Stays (fails P s (moved s.regs m i))
  fails_tight P m i h k =
      each_fails Stays P s (moved s.regs m i) λ t.
      turns_tight _ refl (omega arith) (omega arith) ok.stack refl ok.wires 0
