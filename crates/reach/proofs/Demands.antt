-- The demands hold of every call.
use mathlib.Core.Path.{◌≡◌, refl, ◌∙◌}
use mathlib.Core.Bool.{Bool, true, false, ◌&&◌, ◌||◌}
use Prim.Native.Nat.{ℕ, zero, suc, ◌≤◌}
use native.Mathlib.Nat.{zero-add}
use native.Mathlib.Omega.{arith}
use lib.Dec.{T, leb, ltb, eqb, leb→le, eqb→eq}
use mathlib.Core.List.{List}
use lib.ListN.{length}
use Rattle.limits.specs.Machine.{goes, Run, Inside, charge, limited}
use Rattle.limits.specs.Demand3.{Costly, Growing}
use Rattle.limits.proofs.Steps.{next_goes}
use Rattle.limits.proofs.Promise.{limited_meets, promise_unique}
use Rattle.limits.proofs.Tally.{steps_are_number, time_is_sum, peak_is_deepest, heap_is_sum}
use Rattle.limits.proofs.Kept.{kept_limited}
use Rattle.limits.proofs.Demand3 as limits3
use Rattle.hume.specs.Image.{Program, program, code_at}
use Rattle.hume.specs.Tests.{every}
use Rattle.hume.specs.Refusals.{unless, length_ok, version_ok, counts_ok, code_ok, image_refusal, card_ok, limits_ok, wires_ok, order_ok}
use Rattle.hume.specs.State.{State, sp, hp}
use Rattle.hume.specs.Machine.{machine, start}
use Rattle.hume.specs.Call.{Given, refusal, first_of, lent_refusal, outcome, answer, answer_by}
use Rattle.laws.proofs.Tests.{and_left, and_right}
use Rattle.laws.proofs.Accepted.{accepted, narrow, card_fits, wires_fit, order_fits}
use Rattle.reach.specs.Sound.{Sound, Ranged}
use Rattle.reach.specs.Demands.{Demand1, Allowed, Demand3, OwnFigures, Typed, Left, unlimited, begins}
use Rattle.reach.proofs.Sound.{sound_kept, sound_start}
use Rattle.reach.proofs.Ranged.{ranged_kept, ranged_start}
use Rattle.reach.proofs.Steps.{costly, growing, depth_is, heap_is}

-- ---- demand 1

pub demand1 : (g : Given) → Demand1 g
unfolding answer answer_by
demand1 g = record { refuses = λ n e. rw e; accepts = λ e. rw e }

-- ---- what an accepted call gives

-- where no number applies each test passes
passes : (b : Bool) (n later : ℕ) → unless b (suc n) later ≡ 0 → T b
unfolding unless
passes true n later e = tt
passes false n later e = let z : suc n ≡ 0 = e in absurd (omega arith)

then : (b : Bool) (n later : ℕ) → unless b (suc n) later ≡ 0 → later ≡ 0
unfolding unless
then true n later e = e
then false n later e = let z : suc n ≡ 0 = e in absurd (omega arith)

first_zero : (m n : ℕ) → first_of m n ≡ 0 → m ≡ 0
unfolding first_of
first_zero zero n e = refl
first_zero (suc m) n e = let z : suc m ≡ 0 = e in absurd (omega arith)

second_zero : (m n : ℕ) → first_of m n ≡ 0 → n ≡ 0
unfolding first_of
second_zero zero n e = e
second_zero (suc m) n e = let z : suc m ≡ 0 = e in absurd (omega arith)

-- the length fits the counts
fits_length : (m : List ℕ) (P : Program) → T (counts_ok m P) → code_at m P.size ≡ length m
unfolding counts_ok
fits_length m P t =
    eqb→eq (code_at m P.size) (length m)
    (and_right (every P.rulesets (λ r. leb 1 (P.count r) && leb (P.count r) 16)) _
    (and_right (leb P.size 4096) _
    (and_right (leb 1 P.size) _
    (and_right (ltb P.handler P.rulesets || eqb P.handler 255) _
    (and_right (leb P.rulesets 32) _
    (and_right (leb 1 P.rulesets) _ (and_right (leb P.outputs 8) _ (and_right (leb P.inputs 8) _ t))))))))

pub allowed : (g : Given) → refusal g ≡ 0 → Allowed g
unfolding refusal image_refusal lent_refusal limits_ok
allowed g e =
    let m = g.image in
    let P = program g.image in
    let L = g.limits in
    let i = first_zero (image_refusal m) (lent_refusal g) e in
    let l = second_zero (image_refusal m) (lent_refusal g) e in
    let i3 = then (version_ok m) 1 _ (then (length_ok m) 0 _ i) in
    let counts = passes (counts_ok m P) 2 _ i3 in
    let l6 = then (card_ok g.card) 4 _ l in
    let limits = passes (limits_ok L.stack L.heap (length g.stack) (length g.heap)) 5 _ l6 in
    let l7 = then (limits_ok L.stack L.heap (length g.stack) (length g.heap)) 5 _ l6 in
    let lim2 = and_right (leb L.stack 4096) _ limits in
    let lim3 = and_right (leb L.heap 16384) _ lim2 in
    record {
      image = accepted m P counts (passes (code_ok P) 3 _ (then (counts_ok m P) 2 _ i3));
      long = fits_length m P counts;
      card = card_fits g.card (passes (card_ok g.card) 4 _ l);
      stack_cap = leb→le L.stack 4096 (and_left (leb L.stack 4096) _ limits);
      heap_cap = leb→le L.heap 16384 (and_left (leb L.heap 16384) _ lim2);
      stack_room = leb→le L.stack (length g.stack) (and_left (leb L.stack (length g.stack)) _ lim3);
      heap_room = leb→le L.heap (length g.heap) (and_right (leb L.stack (length g.stack)) _ lim3);
      wires = wires_fit P g.wires (passes (wires_ok P g.wires) 6 _ l7);
      order = order_fits P g.order (passes (order_ok P g.order) 7 _ (then (wires_ok P g.wires) 6 _ l7));
    }

-- ---- demands 2 and 3

module _ (g : Given) (a : Allowed g) where
  pub is_costly : Costly (unlimited g)
  is_costly s t u e = costly (program g.image) g.card a.card s t u e

  pub is_growing : Growing (unlimited g)
  is_growing s t u e =
      rw (heap_is (program g.image) g.card s, heap_is (program g.image) g.card u)
      (growing (program g.image) g.card s t u e)

  no_heap : (unlimited g).heap (begins g).state ≡ 0
  unfolding machine start
  no_heap = refl

  pub demand3 : Demand3 g
  unfolding outcome
  demand3 =
      let M = unlimited g in
      let L = g.limits in
      let r = begins g in
      record {
        is_met = limited_meets M is_costly L r;
        unique = λ q w. promise_unique M L r q (limited M L r) w (limited_meets M is_costly L r);
        own_exactly = λ e x. limits3.own_exactly M is_costly L r e x;
        limit_exactly = λ b x. limits3.limit_exactly M is_costly L r b x;
        larger_keeps = λ K k e x p. limits3.larger_keeps M is_costly L K k r e x p;
        figures_enough = λ e x c. limits3.figures_enough M is_costly is_growing r.state e x c;
        figures_too_few = λ e x c b u. limits3.figures_too_few M is_costly is_growing r.state no_heap e x c b u;
        figures_least = λ K e x c. limits3.figures_least M is_costly is_growing r.state no_heap K e x c;
      }

  pub own_figures : OwnFigures g
  unfolding outcome
  own_figures =
      let M = unlimited g in
      let r = begins g in
      let w = limited_meets M is_costly g.limits r in
      let x = (outcome g).run in
      let s = steps_are_number M w.count r x w.reached in
      let t = time_is_sum M w.count r x w.reached in
      let h = heap_is_sum M is_growing w.count r x w.reached in
      let z = no_heap in
      record {
        count = w.count;
        reached = w.reached;
        steps = s ∙ zero-add w.count;
        time = t ∙ zero-add _;
        peak = peak_is_deepest M w.count r x w.reached;
        heap = omega (arith, h, z);
      }

  -- ---- what holds of the state that is left

  abbrev P : Program
  P = program g.image

  record Both (r : Run State) : Type 0 where
    sound : Sound P r.state
    ranged : Ranged r

  module _ (y : Typed g) where
    both_kept : (r : Run State) (t : ℕ) (u : State) → Both r → (unlimited g).act r.state ≡ goes t u
        → Inside (unlimited g) g.limits (charge (unlimited g) r t u) → Both (charge (unlimited g) r t u)
    both_kept r t u b e i =
        let n = narrow g.image y.image in
        let d : sp u ≤ g.limits.stack = rw (depth_is P g.card u) at i.stack in
        let h : hp u ≤ g.limits.heap = rw (heap_is P g.card u) at i.heap in
        record {
          sound = sound_kept P a.image n g.card r.state t u b.sound e;
          ranged =
              ranged_kept P a.image n g.card a.card r (charge (unlimited g) r t u) b.sound b.ranged
              (next_goes (unlimited g) r t u e) (omega (arith, d, a.stack_cap)) (omega (arith, h, a.heap_cap));
        }

    pub left : Left g
    unfolding outcome
    left =
        let b =
        kept_limited (unlimited g) g.limits Both both_kept (begins g)
        (record {
          sound = sound_start P a.image g.wires g.order a.wires a.order;
          ranged = ranged_start P g.wires g.order y.wires;
        }) in
        record { sound = b.sound; ranged = b.ranged }
