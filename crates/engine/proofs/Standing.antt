-- Between two turns the plain facts hold that make every index and sum of the code safe.
use mathlib.Core.Path.{◌≡◌, sym, ap, ◌∙◌, subst}
use Prim.Native.Nat.{ℕ, ◌+◌, ◌-◌, ◌/◌, ◌%◌, ◌^◌, ◌≤◌, ◌<◌}
use native.Mathlib.Omega.{arith}
use lib.ListN.{length, get_or}
use Rattle.hume.specs.Words.{Word, null, bits}
use Rattle.hume.specs.Image.{program}
use Rattle.hume.specs.State.{locals}
use Rattle.hume.specs.Call.{Given}
use Rattle.laws.specs.Whole.{Whole}
use Rattle.laws.specs.Sizes.{Small}
use Rattle.laws.proofs.Objects.{whole_inside}
use Rattle.reach.specs.Sound.{Plain, is_null, is_ref, is_none, is_ret, is_rules, is_static}
use Rattle.reach.specs.Demands.{Allowed, Typed}
use Rattle.reach.proofs.Frames.{lp_le, word_free}
use Rattle.engine.specs.Turns.{Buffers, Smalls}
use Rattle.engine.specs.Fits.{Fit, Refs}
use Rattle.engine.specs.Ready.{Ready}
use Rattle.engine.proofs.Backing.{frames_framed}
use Rattle.engine.proofs.Granted.{frames_blocks}
use Rattle.engine.proofs.Writing.{top_sound}
use Rattle.engine.specs.Running.{Bounds, Going}
use Rattle.engine.specs.Limits.{Limits}
use Rattle.engine.specs.declared.regs.Regs.{Regs}

-- the type and the payload that 32 bits are
pub type_of : (w : Word) (n : ℕ) → n ≡ bits w → Small w → n / 2 ^ 28 ≡ w.type
unfolding bits
type_of w n e s = let p = s.payload in rw e (omega arith)

pub payload_of : (w : Word) (n : ℕ) → n ≡ bits w → Small w → n % 2 ^ 28 ≡ w.payload
unfolding bits
payload_of w n e s = let p = s.payload in rw e (omega arith)

module _ (g : Given) (a : Allowed g) {lim : Limits} (k : Bounds g lim) {r : Regs} {b : Buffers} (w : Going g r b) where
  frame_room : r.fp + locals r.fp w.ws ≤ length w.ws
  frame_room = lp_le (program g.image) w.hs w.ws r.fp w.sound.frames

  -- the steps are at most the time, which is below 2^32
  steps_small : r.steps < 2 ^ 32
  steps_small =
      let s : r.steps ≤ g.limits.time - r.left = w.ranged.steps in
      omega (arith, k.time)

  pub fits : Fit r
  fits =
      let i = a.image in
      let s = w.sound in
      let h = w.holds in
      let n = steps_small in
      let m : r.mp ≤ r.steps = w.ranged.mp in
      let p : r.inp ≤ r.steps = w.ranged.inp in
      let c : (program g.image).count r.rs ≤ 16 = i.rules r.rs s.rs in
      record {
        pc = omega (arith, s.pc, i.size);
        sp = omega (arith, a.stack_cap, w.sp);
        hp = omega (arith, a.heap_cap, w.hp);
        fp = omega (arith, h.lp);
        lp = omega (arith, h.lp, h.sp, frame_room);
        slp = w.ranged.slp;
        rp = omega (arith, s.rp, c);
        mp = omega (arith, m, n);
        inp = omega (arith, p, n);
        rs = omega (arith, s.rs, i.rulesets);
        steps = n;
        peak = w.peak;
      }

  -- a word of the stack, as its 32 bits
  pub word_at : (i : ℕ) → i < r.sp → get_or b.stack i 0 ≡ bits (get_or w.ws i null)
  word_at i h = w.holds.stack.get i (omega (arith, w.holds.sp))

  -- a reference is to a whole object
  pub whole_at : (i : ℕ) → i < r.sp → get_or b.stack i 0 / 2 ^ 28 ≡ 1
      → Whole w.hs (get_or b.stack i 0 % 2 ^ 28)
  whole_at i h e = by (word_free (program g.image) w.hs w.ws r.fp w.sound.frames i (λ t. six t))
    where
      small : Small (get_or w.ws i null)
      small = w.ranged.stack i

      typed : (get_or w.ws i null).type ≡ 1
      typed = sym (type_of (get_or w.ws i null) _ (word_at i h) small) ∙ e

      six : (get_or w.ws i null).type ≡ 6 → ⊥
      six t = let z : ◌≡◌ {A = ℕ} 1 6 = sym typed ∙ t in omega arith

      other : (t : ℕ) → (get_or w.ws i null).type ≡ t → 1 ≡ t
      other t q = sym typed ∙ q

      by : Plain (program g.image) w.hs (get_or w.ws i null) → Whole w.hs (get_or b.stack i 0 % 2 ^ 28)
      by (is_null q) = absurd (omega (arith, other 0 (ap (λ (v : Word). v.type) q)))
      by (is_ref p q o) =
          subst (Whole w.hs)
          (sym (payload_of (get_or w.ws i null) _ (word_at i h) small ∙ ap (λ (v : Word). v.payload) q)) o
      by (is_none q) = absurd (omega (arith, other 2 (ap (λ (v : Word). v.type) q)))
      by (is_ret p q m) = absurd (omega (arith, other 3 (ap (λ (v : Word). v.type) q)))
      by (is_rules p m q n o) = absurd (omega (arith, other 4 (ap (λ (v : Word). v.type) q)))
      by (is_static p q) = absurd (omega (arith, other 5 (ap (λ (v : Word). v.type) q)))

  pub refs : Refs r b.stack
  refs =
      record {
        each = λ i h e.
            let o : get_or b.stack i 0 % 2 ^ 28 + 2 ≤ length w.hs = whole_inside (whole_at i h e) in
            omega (arith, w.holds.hp);
      }

  -- a Tuple, Constr or Exn that the stack refers to has its fields below hp, the top value is held by the heap, and a frame has its link
  pub ready : Typed g → length b.stack ≡ lim.stack → length b.heap ≡ lim.heap → Ready (program g.image) r b
  ready y ls lh =
      let s = w.sound in
      let small : Smalls w.ws = record { each = w.ranged.stack } in
      let smalls : Smalls w.hs = record { each = w.ranged.heap } in
      record {
        fit = fits;
        within = record { stack = omega (arith, k.stack, ls, w.sp); heap = omega (arith, k.heap, lh, w.hp) };
        pc = s.pc;
        rs = s.rs;
        refs = refs;
        framed = frames_framed fits w.holds small s.frames;
        blocks = frames_blocks w.holds small s.frames;
        top = top_sound s fits w.holds small smalls;
        order = s.order;
        wires = s.wires;
      }
