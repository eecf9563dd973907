-- One turn of the loop, of a run that is under way.
use mathlib.Core.Path.{◌≡◌, refl, sym, ap, ◌∙◌, subst}
use mathlib.Core.Bool.{Bool, true, false}
use Rattle.std.specs.Prelude.{Some, None}
use Prim.Native.Nat.{ℕ, suc, ◌+◌, ◌-◌, ◌≤◌, ◌<◌, max}
use native.Mathlib.Omega.{arith}
use Rattle.limits.specs.Machine.{ends, goes, Run, Ending as Halt, own, limit, stopped, Inside, charge, limited}
use Rattle.limits.specs.Machine.{Time as Time', Stack as Stack', Heap as Heap'}
use Rattle.limits.proofs.Turns.{limited_ends, limited_stops, limited_goes}
use Rattle.limits.proofs.Steps.{next_goes}
use Rattle.hume.specs.Image.{program}
use Rattle.hume.specs.State.{State, End, finished, sp, hp}
use Rattle.hume.specs.Machine.{machine, acts}
use Rattle.hume.specs.Call.{Given, outcome}
use Rattle.laws.proofs.Accepted.{narrow}
use Rattle.reach.specs.Sound.{Sound, Ranged}
use Rattle.reach.specs.Demands.{Allowed, Typed, unlimited}
use Rattle.reach.proofs.Demands.{is_costly}
use Rattle.reach.proofs.Sound.{sound_kept}
use Rattle.reach.proofs.Ranged.{ranged_kept}
use Rattle.reach.proofs.Steps.{costly, depth_is, heap_is}
use Rattle.engine.specs.Turns.{core, Holds, Buffers, end_of, halt, onward, paid, Goes, Turned, Meets}
use Rattle.engine.specs.Turns as turns
use Rattle.engine.specs.Running.{run_of, Bounds, Going, halt_of, Over}
use Rattle.engine.specs.declared.Ending.{Ending}
use Rattle.engine.specs.declared.Ending.TheVariants as ending
use Rattle.engine.specs.Limits.{Limits}
use Rattle.engine.specs.declared.regs.Regs.{Regs}
use Rattle.engine.specs.declared.regs.Turn.{Turn}

-- what a turn makes of a run that is under way
pub data Next (g : Given) (r : Regs) (q : Turn) (b' : Buffers) : Type 0 where
  on : q.ending ≡ None → Going g q.regs b' → q.regs.left < r.left → Next g r q b'
  over : (e : Ending) → q.ending ≡ Some e → Over g q.regs e b' → Next g r q b'

module _ (g : Given) (a : Allowed g) (y : Typed g) {lim : Limits} (k : Bounds g lim) {r : Regs} {b : Buffers} (w : Going g r b) where
  abbrev T : ℕ
  T = g.limits.time

  abbrev here : Run State
  here = run_of T r w.ws w.hs b.wires b.order false

  -- the machine itself ends once Schedule has been executed
  finishes : (v : State) → v.done ≡ true → (unlimited g).act v ≡ ends finished
  unfolding machine acts
  finishes v e = rw e

  -- it stays here
  stays : (q : Turn) (e : Ending) → q ≡ halt r e → (h : Halt End) → e ≡ halt_of h
      → limited (unlimited g) g.limits here ≡ record { ending = h; run = here } → (b' : Buffers) → b' ≡ b → Next g r q b'
  stays q e p h z s b' c =
      subst (λ (x : Buffers). Next g r q x) (sym c)
      (subst (λ (x : Turn). Next g r x b) (sym p)
      (over e refl
      (record {
        ws = w.ws;
        hs = w.hs;
        holds = w.holds;
        left = w.left;
        ending = h;
        done = false;
        is = z;
        same = w.same ∙ s;
      })))

  module _ (t : ℕ) (u : State) (p : (unlimited g).act (core r w.ws w.hs b.wires b.order false) ≡ goes t u) where
    depth_of : (unlimited g).depth u ≡ sp u
    depth_of = depth_is (program g.image) g.card u

    heap_of : (unlimited g).heap u ≡ hp u
    heap_of = heap_is (program g.image) g.card u

    takes_time : 0 < t
    takes_time = costly (program g.image) g.card a.card here_state t u p
      where
        here_state : State
        here_state = core r w.ws w.hs b.wires b.order false

    breaks_time : r.left < t → limited (unlimited g) g.limits here ≡ stopped Time' here
    breaks_time m = limited_stops (unlimited g) g.limits here t u Time' p (omega (arith, m, w.left))

    breaks_stack : t ≤ r.left → lim.stack < sp u → limited (unlimited g) g.limits here ≡ stopped Stack' here
    breaks_stack m n =
        limited_stops (unlimited g) g.limits here t u Stack' p
        (omega (arith, m, w.left), omega (arith, n, k.stack, depth_of))

    breaks_heap : t ≤ r.left → sp u ≤ lim.stack → lim.heap < hp u
        → limited (unlimited g) g.limits here ≡ stopped Heap' here
    breaks_heap m n o =
        limited_stops (unlimited g) g.limits here t u Heap' p
        (omega (arith, m, w.left), omega (arith, n, k.stack, depth_of), omega (arith, o, k.heap, heap_of))

    module _ {q : Turn} {b' : Buffers} (s : Goes lim r t u q b') where
      abbrev then : Run State
      then = run_of T (paid r t s.next) u.stack u.heap b'.wires b'.order u.done

      inside : Inside (unlimited g) g.limits (charge (unlimited g) here t u)
      inside =
          record {
            time = omega (arith, s.time, w.left);
            stack = omega (arith, s.depth, k.stack, depth_of);
            heap = omega (arith, s.heap, k.heap, heap_of);
          }

      is_then : charge (unlimited g) here t u ≡ then
      is_then =
          let n : suc r.steps ≡ r.steps + 1 = omega arith in
          let m : T - r.left + t ≡ T - (r.left - t) = omega (arith, s.time, w.left) in
          let d : (unlimited g).depth u ≡ s.next.sp = depth_of ∙ sym s.holds.sp in
          λ i. record { state = s.is i; steps = n i; time = m i; peak = max r.peak (d i) }

      goes_then : outcome g ≡ limited (unlimited g) g.limits then
      goes_then =
          w.same
          ∙ limited_goes (unlimited g) (is_costly g a) g.limits here t u p inside
          ∙ ap (limited (unlimited g) g.limits) is_then

      sound_then : Sound (program g.image) u
      sound_then =
          sound_kept (program g.image) a.image (narrow g.image y.image) g.card
          (core r w.ws w.hs b.wires b.order false) t u w.sound p

      ranged_then : Ranged then
      ranged_then =
          subst (λ (x : Run State). Ranged x) is_then
          (ranged_kept (program g.image) a.image (narrow g.image y.image) g.card a.card here
          (charge (unlimited g) here t u) w.sound w.ranged (next_goes (unlimited g) here t u p)
          (omega (arith, s.depth, k.stack, a.stack_cap)) (omega (arith, s.heap, k.heap, a.heap_cap)))

      held : Holds (paid r t s.next) b'.stack b'.heap u.stack u.heap
      held =
          let h = s.holds in
          record { stack = h.stack; heap = h.heap; sp = h.sp; hp = h.hp; lp = h.lp }

      next_left : (paid r t s.next).left ≤ T
      next_left = omega (arith, w.left)

      abbrev core_at : Bool → State
      core_at d = core (paid r t s.next) u.stack u.heap b'.wires b'.order d

      abbrev run_at : Bool → Run State
      run_at d = run_of T (paid r t s.next) u.stack u.heap b'.wires b'.order d

      went_on : Next g r q b'
      went_on = by u.done refl
        where
          by : (d : Bool) → u.done ≡ d → Next g r q b'
          by false e =
              subst (λ (x : Turn). Next g r x b') (sym (s.turn ∙ ap (λ (d : Bool). onward d (paid r t s.next)) e))
              (on refl
              (record {
                ws = u.stack;
                hs = u.heap;
                holds = held;
                left = next_left;
                sp = omega (arith, s.depth, k.stack, s.holds.sp);
                hp = omega (arith, s.heap, k.heap, s.holds.hp);
                peak = omega arith;
                sound = subst (λ (v : State). Sound (program g.image) v) (s.is ∙ ap core_at e) sound_then;
                ranged = subst (λ (d : Bool). Ranged (run_at d)) e ranged_then;
                same = goes_then ∙ ap (λ (d : Bool). limited (unlimited g) g.limits (run_at d)) e;
              })
              (omega (arith, s.time, takes_time)))
          by true e =
              subst (λ (x : Turn). Next g r x b') (sym (s.turn ∙ ap (λ (d : Bool). onward d (paid r t s.next)) e))
              (over ending.Finished refl
              (record {
                ws = u.stack;
                hs = u.heap;
                holds = held;
                left = next_left;
                ending = own finished;
                done = u.done;
                is = refl;
                same = goes_then ∙ limited_ends (unlimited g) g.limits then finished (finishes then.state e);
              }))

  turn : (q : Turn) (b' : Buffers) → Turned lim r b ((unlimited g).act (core r w.ws w.hs b.wires b.order false)) q b'
      → Next g r q b'
  turn q b' (turns.ended e p h c) =
      stays q (end_of e) h (own e) refl (limited_ends (unlimited g) g.limits here e p) b' c
  turn q b' (turns.late t u p m h c) = stays q ending.Time h (limit Time') refl (breaks_time t u p m) b' c
  turn q b' (turns.deep t u p m n h c) = stays q ending.Stack h (limit Stack') refl (breaks_stack t u p m n) b' c
  turn q b' (turns.full t u p m n o h c) = stays q ending.Heap h (limit Heap') refl (breaks_heap t u p m n o) b' c
  turn q b' (turns.went t u p s) = went_on t u p s

  -- a turn that meets its contract goes on from here, or has ended
  pub turned : (q : Turn) (b' : Buffers) → Meets lim r b (unlimited g).act q b' → Next g r q b'
  turned q b' m =
      turn q b'
      (m.each w.ws w.hs w.holds (record { each = w.ranged.stack }) (record { each = w.ranged.heap }))
