-- What an instruction led to, from what holds of its deed; and two demands of every machine with limits: each
-- instruction takes time, and none shrinks the heap.
use mathlib.Core.Path.{◌≡◌, refl, sym, ap, subst}
use mathlib.Core.Bool.{Bool, true, false}
use mathlib.Core.List.{List, ◌++◌}
use Prim.Native.Nat.{ℕ, suc, ◌+◌, ◌-◌, ◌≤◌, ◌<◌}
use native.Mathlib.Decide.{dec_le}
use native.Mathlib.Omega.{arith}
use lib.ListN.{length, get_or, length-append, get_or-eq_default}
use Rattle.limits.specs.Machine.{Act, ends, goes}
use Rattle.hume.specs.Image.{Program}
use Rattle.hume.specs.State.{State, sp, hp, End, Effect, Deed}
use Rattle.hume.specs.Machine.{becomes, charged, deed, price, acts, machine}
use Rattle.laws.specs.Accepted.{CardFits}
use Rattle.reach.proofs.Deeds.{Each}

-- ---- what an instruction led to

abbrev went_on : Act State End → Type 0
went_on (ends e) = ⊥
went_on (goes t u) = Unit {0}

abbrev time_of : Act State End → ℕ
time_of (ends e) = 0
time_of (goes t u) = t

abbrev state_of : State → Act State End → State
state_of s (ends e) = s
state_of s (goes t u) = u

-- An effect of which Q holds led from s to u, in a time that is the price c and the effect's cycles.
pub record Went (Q : ℕ → Effect → Type 0) (c : ℕ) (s : State) (t : ℕ) (u : State) : Type 0 where
  pub cycles : ℕ
  pub effect : Effect
  pub holds : Q cycles effect
  pub time : t ≡ c + cycles
  pub state : u ≡ becomes s effect

went_charged : (Q : ℕ → Effect → Type 0) (c : ℕ) (s : State) (d : Deed) (t : ℕ) (u : State) → Each Q d
    → charged c s d ≡ goes t u → Went Q c s t u
unfolding charged
went_charged Q c s (ends x) t u h e = absurd (subst went_on (sym e) tt)
went_charged Q c s (goes k f) t u h e =
    record { cycles = k; effect = f; holds = h; time = sym (ap time_of e); state = sym (ap (state_of s) e) }

-- What holds of the deed at pc holds of the effect that led on.
pub went : (Q : ℕ → Effect → Type 0) (P : Program) (card : List ℕ) (s : State) (t : ℕ) (u : State)
    → Each Q (deed P s.regs.pc s) → (machine P card).act s ≡ goes t u
    → Went Q (price card (P.opcode s.regs.pc)) s t u
unfolding machine acts
went Q P card s t u h e = by s.done e
  where
    by : (b : Bool) → acts b P card s ≡ goes t u → Went Q (price card (P.opcode s.regs.pc)) s t u
    by true q = absurd (subst went_on (sym q) tt)
    by false q = went_charged Q (price card (P.opcode s.regs.pc)) s (deed P s.regs.pc s) t u h q

-- ---- time, depth and heap

-- The machine's depth is sp,
pub depth_is : (P : Program) (card : List ℕ) (s : State) → (machine P card).depth s ≡ sp s
unfolding machine
depth_is P card s = refl

-- and its heap is hp.
pub heap_is : (P : Program) (card : List ℕ) (s : State) → (machine P card).heap s ≡ hp s
unfolding machine
heap_is P card s = refl

anything : ℕ → Effect → Type 0
anything k f = Unit {0}

each_anything : (d : Deed) → Each anything d
unfolding anything
each_anything (ends e) = tt
each_anything (goes k f) = tt

-- A price is 1 at least.
pub price_least : (card : List ℕ) → CardFits card → (op : ℕ) → 1 ≤ price card op
unfolding price
price_least card c op = by (dec_le (suc (op - 1)) 40)
  where
    by : Dec (suc (op - 1) ≤ 40) → 1 ≤ get_or card (op - 1) 1
    by (yes h) = c.least (op - 1) h
    by (no h) =
        let l : length card ≡ 40 = c.long in
        let e : get_or card (op - 1) 1 ≡ 1 = get_or-eq_default card 1 (omega arith) in
        omega arith

-- Every instruction takes time.
pub costly : (P : Program) (card : List ℕ) → CardFits card → (s : State) (t : ℕ) (u : State)
    → (machine P card).act s ≡ goes t u → 0 < t
costly P card c s t u e =
    let w = went anything P card s t u (each_anything (deed P s.regs.pc s)) e in
    let p : 1 ≤ price card (P.opcode s.regs.pc) = price_least card c (P.opcode s.regs.pc) in
    let q : t ≡ price card (P.opcode s.regs.pc) + w.cycles = w.time in
    omega arith

-- No instruction shrinks the heap.
pub growing : (P : Program) (card : List ℕ) (s : State) (t : ℕ) (u : State) → (machine P card).act s ≡ goes t u
    → hp s ≤ hp u
growing P card s t u e =
    let w = went anything P card s t u (each_anything (deed P s.regs.pc s)) e in
    let g = w.effect.grown in
    let q : hp u ≡ length (s.heap ++ g) = ap hp w.state in
    let l : length (s.heap ++ g) ≡ hp s + length g = length-append s.heap g in
    omega arith
