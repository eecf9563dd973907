-- Where a call begins, and what its end leaves in the registers.
use mathlib.Core.Path.{◌≡◌, refl, sym, ap, ◌∙◌, subst}
use mathlib.Core.Bool.{false}
use mathlib.Core.List.{map, List, [], ◌++◌}
use Prim.Native.Nat.{ℕ, zero, suc, ◌-◌, ◌^◌, ◌≤◌, ◌<◌}
use native.Mathlib.Nat.{not-suc-le-zero}
use native.Mathlib.Omega.{arith}
use lib.ListN.{length, get_or, length-append, length-drop, get_or-append, take, drop}
use lib.Seq.{length-take-le}
use lib.Dec.{T, leb, leb→le}
use Rattle.limits.specs.Machine.{Run, fresh, Outcome, limited}
use Rattle.limits.proofs.Kept.{limited_peak}
use Rattle.hume.specs.Tests.{pick}
use Rattle.hume.specs.Words.{Word}
use Rattle.hume.specs.Image.{Program, program, byte}
use Rattle.hume.specs.Refusals.{length_ok}
use Rattle.hume.specs.State.{State, locals, sp, hp}
use Rattle.hume.specs.Machine.{start}
use Rattle.hume.specs.Call.{Given, outcome, refusal}
use Rattle.laws.proofs.Tests.{and_left}
use Rattle.reach.specs.Sound.{Sound, Ranged}
use Rattle.reach.specs.Demands.{Allowed, Typed, unlimited, begins}
use Rattle.reach.proofs.Sound.{sound_start}
use Rattle.reach.proofs.Ranged.{ranged_start}
use Rattle.reach.proofs.Demands.{left}
use Rattle.std.proofs.Math.ListN.{get_or-map}
use Rattle.std.proofs.lemmas.List.{length-map}
use Rattle.gate.specs.declared.image.Start.{Start}
use Rattle.gate.specs.Parts.{LaidOut, in_image, in_order}
use Rattle.engine.specs.Turns.{Bears, core, Buffers, buffers}
use Rattle.engine.specs.Fits.{Located, Imaged}
use Rattle.engine.specs.Running.{run_of, Going, Over}
use Rattle.engine.specs.Endings.{beginning}
use mir.Syntax.{w8, w32}
use mir.Val.{Fits}
use Rattle.hume.specs.Call.{answer}
use Rattle.laws.specs.Accepted.{Bytes, Words32, CardFits}
use Rattle.laws.proofs.Passed.{image_passed, call_passed}
use Rattle.reach.proofs.Demands.{allowed, demand1}
use Rattle.gate.specs.Verdicts.{number, given}
use Rattle.std.specs.Prelude.{Ok, Err}
use Rattle.gate.specs.declared.refusals.Refusal.{Refusal}
use Rattle.gate.proofs.Unique.{one_verdict}
use Rattle.engine.specs.Reports.{told}
use Rattle.engine.specs.Endings.{ending, refusal as refusedReport}
use Rattle.engine.specs.Underway.{Underway, calls}
use Rattle.engine.specs.declared.Report.{Report}
use Rattle.engine.proofs.Telling.{Wiped, told_over, told_refused}
use Rattle.engine.specs.declared.Ending.{Ending}
use Rattle.engine.specs.declared.regs.Regs.{Regs}

-- the gate's layout is the table that the machine goes by
pub laid_out : {m : List ℕ} {starts : List Start} → LaidOut m (map in_image starts) (map in_order starts) → Located m starts
laid_out {m} {starts} l =
    record {
      long = sym (length-map starts in_image) ∙ l.at_length;
      places = λ k h. sym (get_or-map in_image starts k (record { image = 0; order = 0 })) ∙ l.begins k h;
      order_places = λ k h. sym (get_or-map in_order starts k (record { image = 0; order = 0 })) ∙ l.ordered k h;
    }

-- an area bears no words
bears_none : (l : List ℕ) → Bears l []
bears_none l = record { room = omega arith; get = λ i h. absurd (not-suc-le-zero h) }

-- a longer one bears them too
bears_more : {l : List ℕ} {ws : List Word} (x : List ℕ) → Bears l ws → Bears (l ++ x) ws
bears_more {l} x b =
    let n = length-append l x in
    record {
      room = omega (arith, n, b.room);
      get = λ i h. get_or-append l x 0 i (omega (arith, h, b.room)) ∙ b.get i h;
    }

-- what a part of an area becomes, with the rest of it, is as long as the area
pub whole_long : (l : List ℕ) (n : ℕ) (k : List ℕ) → n ≤ length l → length k ≡ length (take n l)
    → length (k ++ drop n l) ≡ length l
whole_long l n k m e =
    let x = length-append k (drop n l) in
    let y = length-drop n l in
    let z = length-take-le n l m in
    omega (arith, x, y, z, e)

module _ (g : Given) (a : Allowed g) (y : Typed g) where
  abbrev P : Program
  P = program g.image

  -- a run begins
  pub begun : (st he : List ℕ) (pc : ℕ) → pc ≡ P.entry 0
      → Going g (beginning pc g.limits.time) (buffers st he g.wires g.order)
  unfolding outcome locals pick start
  begun st he pc e =
      let z : g.limits.time - g.limits.time ≡ 0 = omega arith in
      let same : fresh (start P g.wires g.order)
      ≡ run_of g.limits.time (beginning pc g.limits.time) [] [] g.wires g.order false =
      λ i.
      record {
        state = core (beginning (sym e i) 0) [] [] g.wires g.order false;
        steps = 0;
        time = sym z i;
        peak = 0;
      } in
      record {
        ws = [];
        hs = [];
        holds =
            record { stack = bears_none st; heap = bears_none he; sp = refl; hp = refl; lp = refl };
        left = omega arith;
        sp = omega arith;
        hp = omega arith;
        peak = omega arith;
        sound =
            subst (λ (k : ℕ). Sound P (core (beginning k g.limits.time) [] [] g.wires g.order false)) (sym e)
            (sound_start P a.image g.wires g.order a.wires a.order);
        ranged = subst (λ (x : Run State). Ranged x) same (ranged_start P g.wires g.order y.wires);
        same = ap (limited (unlimited g) g.limits) same;
      }

  -- the registers at the end fit 32 bits
  pub record Small (r : Regs) : Type 0 where
    pub pc : r.pc < 2 ^ 32
    pub steps : r.steps < 2 ^ 32
    pub peak : r.peak < 2 ^ 32
    pub sp : r.sp < 2 ^ 32
    pub hp : r.hp < 2 ^ 32

  peak_most : (outcome g).run.peak ≤ g.limits.stack
  unfolding outcome
  peak_most = limited_peak (unlimited g) g.limits (begins g) (omega arith)

  pub end_small : {r : Regs} {e : Ending} {b : Buffers} → g.limits.time < 2 ^ 32 → Over g r e b → Small r
  end_small {r} t o =
      let l = left g a y in
      let run : (outcome g).run
      ≡ run_of g.limits.time r o.ws o.hs _ _ o.done =
      ap (λ (q : Outcome _ _). q.run) o.same in
      let pc : (outcome g).run.state.regs.pc ≡ r.pc = ap (λ (x : Run State). x.state.regs.pc) run in
      let st : (outcome g).run.steps ≡ r.steps = ap (λ (x : Run State). x.steps) run in
      let tm : (outcome g).run.time ≡ g.limits.time - r.left = ap (λ (x : Run State). x.time) run in
      let pk : (outcome g).run.peak ≡ r.peak = ap (λ (x : Run State). x.peak) run in
      let s : sp (outcome g).run.state ≡ length o.ws = ap (λ (x : Run State). sp x.state) run in
      let h : hp (outcome g).run.state ≡ length o.hs = ap (λ (x : Run State). hp x.state) run in
      record {
        pc = omega (arith, pc, l.sound.pc, a.image.size);
        steps = omega (arith, st, tm, l.ranged.steps, t);
        peak = omega (arith, pk, peak_most, a.stack_cap);
        sp = omega (arith, s, l.ranged.sp, o.holds.sp);
        hp = omega (arith, h, l.ranged.hp, o.holds.hp);
      }

-- an accepted image has its first 11 bytes
pub eleven : (m : List ℕ) → T (length_ok m) → 11 ≤ length m
unfolding length_ok
eleven m t = leb→le 11 (length m) (and_left (leb 11 (length m)) _ t)

-- ---- the whole call

-- what the code knows of an accepted call: the numbers and slices are of their types
pub bytes_of : {m : List ℕ} → ((i : ℕ) → Fits w8 (get_or m i 0)) → Bytes m
unfolding byte
bytes_of f = record { each = λ i. (f i).fits }

pub words_of : {l : List ℕ} → ((i : ℕ) → Fits w32 (get_or l i 0)) → Words32 l
words_of f = record { each = λ i. (f i).fits }

module _ (g : Given) (e : refusal g ≡ 0) (y : Bytes g.image) where
  abbrev b : Buffers
  b = buffers g.stack g.heap g.wires g.order

  pub an_image : Imaged g.image
  an_image = let a = allowed g e in record { accepted = a.image; long = a.long; bytes = y }

  pub long_enough : 11 ≤ length g.image
  long_enough = eleven g.image (image_passed g.image (call_passed g e).image).length

  pub card_fits : CardFits g.card
  card_fits = (allowed g e).card

  pub stack_room : g.limits.stack ≤ length g.stack
  stack_room = (allowed g e).stack_room

  pub heap_room : g.limits.heap ≤ length g.heap
  heap_room = (allowed g e).heap_room

  pub stack_part : length (take g.limits.stack g.stack) ≡ g.limits.stack
  stack_part = length-take-le g.limits.stack g.stack stack_room

  pub heap_part : length (take g.limits.heap g.heap) ≡ g.limits.heap
  heap_part = length-take-le g.limits.heap g.heap heap_room

  -- as much of each area as its limit allows
  abbrev part : Buffers
  part = buffers (take g.limits.stack g.stack) (take g.limits.heap g.heap) g.wires g.order

  pub some_ruleset : 0 < (program g.image).rulesets
  some_ruleset = (allowed g e).image.some_ruleset

  module _ (z : Words32 g.wires) (t : g.limits.time < 2 ^ 32) where
    pub typed : Typed g
    typed = record { image = y; wires = z }

    -- of an image and a card that are known to be the call's
    module _ {n prices : List ℕ} (i : (n ≡ g.image) × (prices ≡ g.card)) {r : Regs} (pc : ℕ)
        (q : r ≡ beginning pc g.limits.time) (p : pc ≡ (program n).entry 0) where
      under : Underway g.image g.card r part
      under =
          record {
            limits = g.limits;
            lent = b;
            allowed = allowed g e;
            typed = typed;
            bounds = record { stack = stack_part; heap = heap_part; time = t };
            going =
                subst (λ (k : Regs). Going g k part) (sym q)
                (begun g (allowed g e) typed part.stack part.heap pc (p ∙ ap (λ (x : List ℕ). (program x).entry 0) i.0));
          }

      pub underway : Underway n prices r part
      underway =
          subst (λ (x : List ℕ). Underway x prices r part) (sym i.0)
          (subst (λ (x : List ℕ). Underway g.image x r part) (sym i.1) under)

      -- what the loop leaves, of this call
      pub ran_over : {last : Regs} {d : Ending} {b' : Buffers}
          → ((u : Underway n prices r part) → Over (calls n prices u.limits u.lent) last d b') → Over g last d b'
      unfolding under
      ran_over {last} {d} {b'} k =
          subst (λ (x : List ℕ). (u : Underway g.image x r part) → Over (calls g.image x u.limits u.lent) last d b') i.1
          (subst (λ (x : List ℕ). (u : Underway x prices r part) → Over (calls x prices u.limits u.lent) last d b') i.0 k)
          under

      -- of the whole areas too
      pub ran_whole : {last : Regs} {d : Ending} {b' : Buffers} (x y : List ℕ)
          → ((u : Underway n prices r part) → Over (calls n prices u.limits u.lent) last d b')
          → Over g last d (buffers (b'.stack ++ x) (b'.heap ++ y) b'.wires b'.order)
      ran_whole x y k =
          let o = ran_over k in
          record {
            ws = o.ws;
            hs = o.hs;
            holds =
                record {
                  stack = bears_more x o.holds.stack;
                  heap = bears_more y o.holds.heap;
                  sp = o.holds.sp;
                  hp = o.holds.hp;
                  lp = o.holds.lp;
                };
            left = o.left;
            ending = o.ending;
            done = o.done;
            is = o.is;
            same = o.same;
          }

    pub last_small : {r : Regs} {d : Ending} {b' : Buffers} → Over g r d b' → Small g (allowed g e) typed r
    last_small o = end_small g (allowed g e) typed t o

    -- the report and the wiped areas are the answer
    pub answered : {r : Regs} {d : Ending} {b' : Buffers} {st' he' : List ℕ} {q : Report} → Over g r d b'
        → length b'.stack ≡ length g.stack → length b'.heap ≡ length g.heap → Wiped b'.stack r.sp st'
        → Wiped b'.heap r.hp he' → q ≡ ending d r g.limits.time → told q (buffers st' he' b'.wires b'.order) ≡ answer g
    answered {r} {d} {b'} {st'} {he'} {q} o ls lh ws wh p =
        ap (λ (x : Report). told x (buffers st' he' b'.wires b'.order)) p
        ∙ told_over g r d b' st' he' o ls lh ws wh
        ∙ sym ((demand1 g).accepts e)

-- a call that is turned away
pub turned_away : (m card : List ℕ) (T S H : ℕ) (st he wi or : List ℕ) (q : Report) (r : Refusal)
    → number (Err r) ≡ refusal (given m card T S H st he wi or) → q ≡ refusedReport r
    → told q (buffers st he wi or) ≡ answer (given m card T S H st he wi or)
turned_away m card T S H st he wi or q r e p = by (number (Err r)) refl
  where
    by : (k : ℕ) → number (Err r) ≡ k → told q (buffers st he wi or) ≡ answer (given m card T S H st he wi or)
    by zero z = absurd (let same = one_verdict (Err r) (Ok tt) z in cc)
    by (suc k) z =
        ap (λ (x : Report). told x (buffers st he wi or)) p
        ∙ told_refused (given m card T S H st he wi or) r (suc k) z
        ∙ sym ((demand1 (given m card T S H st he wi or)).refuses k (sym e ∙ z))
