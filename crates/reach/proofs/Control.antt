-- Instructions 15 to 21: control.
use mathlib.Core.Path.{◌≡◌, refl, sym, ap, ◌∙◌, subst}
use mathlib.Core.Bool.{not, ◌&&◌, ◌||◌}
use mathlib.Core.List.{List, [], ◌∷◌, ◌++◌}
use Prim.Native.Nat.{ℕ, zero, suc, ◌+◌, ◌-◌, ◌*◌, ◌/◌, ◌≤◌, ◌<◌}
use native.Mathlib.Omega.{arith}
use lib.Dec.{T, leb, eqb, eqb→eq, T_not, lit≤, lit<}
use lib.ListN.{length, get_or, take, get_or-append}
use lib.Seq.{get_or_at, take-append-le}
use Rattle.hume.specs.Tests.{pick}
use Rattle.hume.specs.Words.{Word, null, none, ref, ret, rules, static, link, raw, is_value, bool_header, exn_header, tuple_header}
use Rattle.hume.specs.Values.{block_ok}
use Rattle.hume.specs.Image.{Program}
use Rattle.hume.specs.Primitives.{Yield, value, raises, Primitive, prim1, prim2}
use Rattle.hume.specs.State.{Regs, State, hp, locals, values, below, without, is_cell, second, at, next, leaving, raise}
use Rattle.hume.specs.Machine.{becomes}
use Rattle.hume.specs.Instructions.{Goto, If, Call, saved, frame_ok, Return, yielded, operand, operand_ok, CallPrim1, CallPrim2, Raise}
use Rattle.laws.specs.Whole.{Whole, Held, none_held}
use Rattle.laws.specs.Accepted.{Accepted, Handler, absent, present}
use Rattle.laws.proofs.Tests.{and_left, and_right, and_both, or_right, eqb_of}
use Rattle.laws.proofs.Objects.{atom_whole, block_whole}
use Rattle.reach.specs.Sound.{Plain, is_ret, is_rules, is_static, Frames, bottom, frame, Sound}
use Rattle.reach.proofs.Deeds.{each_need, each_pick, of_pick}
use Rattle.reach.proofs.Results.{YieldOk, prim1_ok, prim2_ok}
use Rattle.reach.proofs.Lists.{through_nil, through_one, through_cons}
use Rattle.reach.proofs.Frames.{word_at, frames_push, frames_top, frames_cut, Framed, framed}
use Rattle.reach.proofs.Plain.{null_plain, Ruled, plain_ret, plain_rules, plain_held}
use Rattle.reach.proofs.Keeps.{Keeps, grown_frames, leaves_sound, turns_sound, builds_keeps, popped, value_plain}

-- an Exn
exn_ok : (b : ℕ) → b < 65536 → T (block_ok (exn_header b) 1)
unfolding block_ok
exn_ok b k =
    let e : (6 * 65536 + b) / 65536 ≡ 6 = omega arith in
    or_right ((eqb (exn_header b) tuple_header || eqb (exn_header b / 65536) 5) && leb 1 255) _
    (and_both (eqb (exn_header b / 65536) 6) (eqb 1 1) (eqb_of _ 6 e) tt)

module _ (P : Program) (acc : Accepted P) (s : State) (ok : Sound P s) where
  -- ---- jumps

  -- 15 Goto
  pub Goto-keeps : (b : ℕ) → b < P.size → Keeps P s (Goto b s)
  unfolding Goto
  Goto-keeps b h = turns_sound P s ok (at b s.regs) s.stack h refl refl ok.frames

  -- 16 If
  pub If-keeps : s.regs.pc + 1 < P.size → (b : ℕ) → b < P.size → Keeps P s (If b s)
  unfolding If
  If-keeps n b h =
      each_need _ (leb 1 (values s)) 1 _ λ v.
      each_need _ (is_cell s.heap (below s.stack 0) bool_header) 2 _ λ t.
      of_pick (λ (r : Regs). Sound P (becomes s (leaving s r (without 1 s.stack) [])))
      (eqb (second s.heap (below s.stack 0)) 1) (at b s.regs) (next s.regs)
      (turns_sound P s ok (at b s.regs) (without 1 s.stack) h refl refl (popped P s ok 1 v))
      (turns_sound P s ok (next s.regs) (without 1 s.stack) n refl refl (popped P s ok 1 v))

  -- 17 Call
  pub Call-keeps : s.regs.pc + 1 < P.size → (a : ℕ) → a < P.rulesets → Keeps P s (Call P a s)
  unfolding Call
  Call-keeps n a h =
      let r = s.regs in
      let F = Plain P s.heap in
      leaves_sound P s ok _ _ [] (acc.entry a h) h (omega arith)
      (grown_frames P s ok [] _ _
      (frames_push P s.heap s.stack r.fp ok.frames _
      (through_cons F (ret (r.pc + 1)) _ (is_ret (r.pc + 1) refl n)
      (through_cons F (rules r.rs r.rp) _ (is_rules r.rs r.rp refl ok.rs ok.rp)
      (through_one F (null_plain P s.heap) (static r.slp) (is_static r.slp refl))))))

  -- ---- the return

  -- the words that Return finds, where its tests pass
  record Restored : Type 0 where
    pc : (saved s 4).payload < P.size
    rules : Ruled P (saved s 3).payload
    frames : Frames P s.heap (take (s.regs.fp - 4) s.stack) ((saved s 1).payload / 256)

  restored : Framed P s.heap s.stack s.regs.fp → (saved s 4).type ≡ 3 → (saved s 3).type ≡ 4 → Restored
  unfolding saved
  restored f t u =
      let lower = f.lower in
      let ws = s.stack in
      let fp = s.regs.fp in
      let place : fp ≡ suc (length lower) = f.place in
      let room : f.prev + locals f.prev lower + 3 ≤ length lower = f.saved in
      let small : f.n < 256 = f.small in
      let low : (k : ℕ) → 1 < k → get_or ws (fp - k) null ≡ get_or lower (fp - k) null =
      λ k h.
      ap (λ (l : List Word). get_or l (fp - k) null) f.split
      ∙ get_or-append lower (link f.prev f.n ∷ f.upper) null (fp - k) (omega arith) in
      let linked : get_or ws (fp - 1) null ≡ link f.prev f.n =
      ap (λ (l : List Word). get_or l (fp - 1) null) f.split
      ∙ get_or_at lower (link f.prev f.n) f.upper null (fp - 1) (omega arith) in
      let back : (get_or ws (fp - 1) null).payload ≡ f.prev * 256 + f.n = ap (λ (w : Word). w.payload) linked in
      let prev : (get_or ws (fp - 1) null).payload / 256 ≡ f.prev = omega arith in
      let plain : (k : ℕ) → 1 < k → k < 5 → Plain P s.heap (get_or ws (fp - k) null) =
      λ k h m.
      subst (Plain P s.heap) (sym (low k h))
      (word_at P s.heap lower f.prev f.frames (fp - k) (omega arith)) in
      let cut : take (fp - 4) ws ≡ take (fp - 4) lower =
      ap (λ (l : List Word). take (fp - 4) l) f.split
      ∙ take-append-le (fp - 4) lower (link f.prev f.n ∷ f.upper) (omega arith) in
      record {
        pc = plain_ret P s.heap (get_or ws (fp - 4) null) (plain 4 (lit< tt) (lit< tt)) t;
        rules = plain_rules P s.heap (get_or ws (fp - 3) null) acc (plain 3 (lit< tt) (lit< tt)) u;
        frames =
            rw (prev, cut)
            (frames_cut P s.heap lower f.prev f.frames (fp - 4) (omega arith));
      }

  -- 18 Return
  pub Return-keeps : Keeps P s (Return s)
  unfolding Return frame_ok
  Return-keeps =
      each_need _ (leb 1 (values s)) 1 _ λ v.
      each_need _ (frame_ok s) 4 _ λ t.
      let b0 = not (eqb s.regs.fp 0) in
      let b4 = eqb (saved s 4).type 3 in
      let b3 = eqb (saved s 3).type 4 in
      let t1 = and_right b0 _ t in
      let t2 = and_right b4 _ t1 in
      let f = framed P s.heap s.stack s.regs.fp ok.frames
      (λ e. T_not (eqb s.regs.fp 0) (and_left b0 _ t) (eqb_of s.regs.fp 0 e)) in
      let e4 = eqb→eq (saved s 4).type 3 (and_left b4 _ t1) in
      let e3 = eqb→eq (saved s 3).type 4 (and_left b3 _ t2) in
      let r = restored f e4 e3 in
      leaves_sound P s ok _ _ [] r.pc r.rules.rs r.rules.rp
      (grown_frames P s ok [] _ _
      (frames_top P s.heap (take (s.regs.fp - 4) s.stack) ((saved s 1).payload / 256) r.frames
      (below s.stack 0) (value_plain P s ok 1 v 0 (omega arith))))

  -- ---- exceptions and primitives

  -- the stack that an exception leaves
  raised_frames : (hs : List Word) (p : ℕ) → Whole hs p → Frames P hs (ref p ∷ null ∷ null ∷ null ∷ link 0 0 ∷ []) 5
  unfolding locals pick
  raised_frames hs p o =
      let F = Plain P hs in
      let z = null_plain P hs in
      let lower = ref p ∷ null ∷ null ∷ null ∷ [] in
      let nulls = through_cons F null _ z (through_cons F null _ z (through_one F z null z)) in
      frame _ 5 lower [] 0 0 refl refl (lit< tt) (lit≤ tt) (through_nil F z) (lit≤ tt)
      (bottom lower 0 refl (through_cons F (ref p) _ (Plain.is_ref p refl o) nulls))

  raise_keeps : (cycles b : ℕ) (w : Word) → b < 65536 → Held s.heap w → Keeps P s (raise P s cycles b w)
  unfolding raise
  raise_keeps cycles b w l h =
      each_pick _ (eqb P.handler 255) _ _ (λ e. tt) λ k.
      let m = handled k acc.handler in
      leaves_sound P s ok _ _ g (acc.entry P.handler m) m (omega arith)
      (raised_frames (s.heap ++ g) (hp s) (block_whole s.heap (exn_header b) (w ∷ []) (exn_ok b l) field))
    where
      g : List Word
      g = raw (exn_header b) ∷ raw 1 ∷ w ∷ []

      field : (i : ℕ) → i < 1 → Held s.heap (get_or (w ∷ []) i null)
      field zero m = h
      field (suc i) m = absurd (omega arith)

      handled : (T (eqb P.handler 255) → ⊥) → Handler P → P.handler < P.rulesets
      handled k (absent e) = absurd (k (eqb_of P.handler 255 e))
      handled k (present m) = m

  yielded_keeps : s.regs.pc + 1 < P.size → (n : ℕ) → T (leb n (values s)) → (p : Primitive) (y : Yield)
      → YieldOk p.gives y → Keeps P s (yielded P s n p y)
  unfolding yielded
  yielded_keeps next n v p (value x) h =
      builds_keeps P s ok p.cycles (without n s.stack) (raw p.gives ∷ raw x ∷ []) next (popped P s ok n v)
      (atom_whole s.heap p.gives x h.0)
  yielded_keeps next n v p (raises e) h = raise_keeps p.cycles e none h (none_held refl)

  -- 19 CallPrim1
  pub CallPrim1-keeps : s.regs.pc + 1 < P.size → (a : ℕ) → Keeps P s (CallPrim1 P a s)
  unfolding CallPrim1
  CallPrim1-keeps next a =
      each_need _ (leb 1 (values s)) 1 _ λ v.
      each_need _ (operand_ok s (prim1 a) 0) 2 _ λ t.
      yielded_keeps next 1 v (prim1 a) _ (prim1_ok a (operand s 0) 0)

  -- 20 CallPrim2
  pub CallPrim2-keeps : s.regs.pc + 1 < P.size → (a : ℕ) → Keeps P s (CallPrim2 P a s)
  unfolding CallPrim2
  CallPrim2-keeps next a =
      each_need _ (leb 2 (values s)) 1 _ λ v.
      each_need _ (operand_ok s (prim2 a) 0 && operand_ok s (prim2 a) 1) 2 _ λ t.
      yielded_keeps next 2 v (prim2 a) _ (prim2_ok a (operand s 0) (operand s 1))

  -- 21 Raise
  pub Raise-keeps : (b : ℕ) → b < 65536 → Keeps P s (Raise P b s)
  unfolding Raise
  Raise-keeps b l =
      each_need _ (leb 1 (values s)) 1 _ λ v.
      each_need _ (is_value (below s.stack 0)) 2 _ λ t.
      raise_keeps 0 b (below s.stack 0) l
      (plain_held P s.heap (below s.stack 0) (value_plain P s ok 1 v 0 (omega arith)) t)
