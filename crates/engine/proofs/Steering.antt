-- What the instructions that go elsewhere than to the next one lead to.
use Rattle.std.specs.Prelude.{Some}
use Rattle.std.specs.Option.{unwrap_or}
use mathlib.Core.Path.{◌≡◌, refl, sym, ap, ◌∙◌, subst}
use mathlib.Core.Bool.{Bool, true, false, not, ◌&&◌}
use mathlib.Core.List.{List, [], ◌∷◌, ◌++◌, append-nil}
use Prim.Native.Nat.{ℕ, ◌+◌, ◌*◌, ◌-◌, ◌/◌, ◌%◌, ◌^◌, ◌≤◌, ◌<◌}
use native.Mathlib.Decide.{ℕ_discrete}
use native.Mathlib.Omega.{arith}
use lib.Dec.{leb, eqb, leb→le, le→leb, eqb→eq}
use lib.ListN.{length, get_or, set, take, length-append, length-set}
use lib.Seq.{length-take-le, append_snoc}
use borrow.Author.Tests.{eq-eqb, ne_eqb, le-leb, lt-leb}
use Rattle.limits.specs.Machine.{goes}
use Rattle.hume.specs.Words.{Word, null, ret, rules, static, bits, bool_header}
use Rattle.hume.specs.State.{State, fault, values, locals, without, leaving, at, below, second, is_cell}
use Rattle.hume.specs.State as state
use Rattle.hume.specs.Tests.{pick}
use Rattle.hume.specs.Image.{Program}
use Rattle.hume.specs.Machine.{charged}
use Rattle.hume.specs.Instructions.{Goto, If, Call, saved, frame_ok, Return, Schedule}
use Rattle.laws.specs.Sizes.{Small}
use Rattle.laws.proofs.Tests.{of_true, and_left, pick_true, pick_false, eqb_of}
use Rattle.laws.proofs.Deeds.{need_yes, need_no}
use Rattle.engine.specs.Fits.{Fit, Refs}
use Rattle.engine.specs.Frames.{Framed, framed}
use Rattle.engine.specs.Turns.{Bears, Smalls, core, Holds, halt, Charging, Buffers, buffers, Turned, went, priced}
use Rattle.engine.specs.Turns as turned
use Rattle.engine.specs.declared.Ending.TheVariants as ending
use Rattle.engine.specs.Limits.{Limits}
use Rattle.engine.specs.declared.regs.Regs.{Regs}
use Rattle.engine.specs.declared.regs.Turn.{Turn}
use Rattle.engine.proofs.After.{after}
use Rattle.engine.proofs.Turning.{Leads, stops, lead_still, values_are, reads_below}
use Rattle.engine.proofs.Areas.{locals_take, locals_append, bears_push, bears_take}
use Rattle.engine.proofs.WordKinds.{not_so, low_byte, type_is, payload_is, cell_no, cell_is_lem, second_is}
use Rattle.engine.proofs.Stores.{length_without, locals_without}

-- ---- the registers after each

-- at another instruction, with this depth
abbrev pub heading : Regs → ℕ → ℕ → Regs
heading r pc sp =
    after r pc sp r.hp r.fp r.lp r.slp r.rp r.mp r.inp r.rs

-- at the entry of the ruleset a
abbrev pub entering : Regs → ℕ → ℕ → Regs
entering r a to =
    after r to (r.sp + 3) r.hp r.fp r.lp (r.sp + 4) 0 r.mp r.inp a

-- where the frame was made
abbrev pub restored : Regs → List ℕ → ℕ → Regs
restored r st lp =
    after r (get_or st (r.fp - 4) 0 % 2 ^ 28) (r.fp - 3) r.hp (get_or st (r.fp - 1) 0 % 2 ^ 28 / 256) lp (get_or st (r.fp - 2) 0 % 2 ^ 28) (get_or st (r.fp - 3) 0 % 256) r.mp r.inp (get_or st (r.fp - 3) 0 % 2 ^ 28 / 256)

-- a turn after which nothing goes on
abbrev pub closed : Turn → Turn
closed q = record { regs = q.regs; ending = Some (unwrap_or q.ending ending.Finished) }

-- ---- the frame

and_off : {a : Bool} (b : Bool) → a ≡ false → (a && b) ≡ false
and_off b e = ap (λ (x : Bool). x && b) e

and_on : {a : Bool} (b : Bool) → a ≡ true → (a && b) ≡ b
and_on b e = ap (λ (x : Bool). x && b) e

-- each test of the four words in turn
pub framed_low : (st : List ℕ) (fp : ℕ) → fp < 4 → false ≡ framed st fp
unfolding framed
framed_low st fp k = sym (and_off _ (lt-leb 4 fp k))

module _ (st : List ℕ) (fp : ℕ) (k : 4 ≤ fp) where
  pub framed_no_ret : (get_or st (fp - 4) 0 / 2 ^ 28 ≡ 3 → ⊥) → false ≡ framed st fp
  unfolding framed
  framed_no_ret z = sym (and_on _ (le-leb 4 fp k) ∙ and_off _ (ne_eqb (get_or st (fp - 4) 0 / 2 ^ 28) 3 z))

  module _ (a : get_or st (fp - 4) 0 / 2 ^ 28 ≡ 3) where
    pub framed_no_rules : (get_or st (fp - 3) 0 / 2 ^ 28 ≡ 4 → ⊥) → false ≡ framed st fp
    unfolding framed
    framed_no_rules z =
        sym
        (and_on _ (le-leb 4 fp k)
        ∙ and_on _ (eq-eqb (get_or st (fp - 4) 0 / 2 ^ 28) 3 a)
        ∙ and_off _ (ne_eqb (get_or st (fp - 3) 0 / 2 ^ 28) 4 z))

    module _ (b : get_or st (fp - 3) 0 / 2 ^ 28 ≡ 4) where
      pub framed_no_static : (get_or st (fp - 2) 0 / 2 ^ 28 ≡ 5 → ⊥) → false ≡ framed st fp
      unfolding framed
      framed_no_static z =
          sym
          (and_on _ (le-leb 4 fp k)
          ∙ and_on _ (eq-eqb (get_or st (fp - 4) 0 / 2 ^ 28) 3 a)
          ∙ and_on _ (eq-eqb (get_or st (fp - 3) 0 / 2 ^ 28) 4 b)
          ∙ and_off _ (ne_eqb (get_or st (fp - 2) 0 / 2 ^ 28) 5 z))

      pub framed_link : get_or st (fp - 2) 0 / 2 ^ 28 ≡ 5 → eqb (get_or st (fp - 1) 0 / 2 ^ 28) 6 ≡ framed st fp
      unfolding framed
      framed_link d =
          sym
          (and_on _ (le-leb 4 fp k)
          ∙ and_on _ (eq-eqb (get_or st (fp - 4) 0 / 2 ^ 28) 3 a)
          ∙ and_on _ (eq-eqb (get_or st (fp - 3) 0 / 2 ^ 28) 4 b)
          ∙ and_on _ (eq-eqb (get_or st (fp - 2) 0 / 2 ^ 28) 5 d))

-- a frame stands above four saved words
pub framed_deep : (st : List ℕ) (fp : ℕ) → framed st fp ≡ true → 4 ≤ fp
unfolding framed
framed_deep st fp e = leb→le 4 fp (and_left (leb 4 fp) _ (of_true e))

-- lp is read from the word below fp
pub locals_none : (l : List ℕ) (fp : ℕ) → fp ≡ 0 → (ws : List Word) → Bears l ws → fp ≤ length ws → 0 ≡ fp + locals fp ws
unfolding locals pick
locals_none l fp e ws b k = rw e refl

pub locals_read : (l : List ℕ) (fp : ℕ) → (fp ≡ 0 → ⊥) → (ws : List Word) → Bears l ws → fp ≤ length ws
    → fp + get_or l (fp - 1) 0 % 256 ≡ fp + locals fp ws
unfolding locals
locals_read l fp e ws b k =
    let m : fp - 1 < length ws = omega (arith, e) in
    ap (λ (n : ℕ). fp + n)
    (low_byte (get_or ws (fp - 1) null) (b.get (fp - 1) m)
    ∙ sym (pick_false (eqb fp 0) 0 ((get_or ws (fp - 1) null).payload % 256) (λ t. e (eqb→eq fp 0 t))))

module _ {r : Regs} (f : Fit r) {st he : List ℕ} {ws hs : List Word} (h : Holds r st he ws hs)
    (wi or : List ℕ) where
  abbrev s : State
  s = core r ws hs wi or false

  pub goto_leads : (cost b : ℕ) → Leads cost (priced cost (Goto b) s) (heading r b r.sp) ws hs wi or
  unfolding Goto
  goto_leads cost b = lead_still cost s (heading r b r.sp) refl h.sp h.hp h.lp

  -- ---- Schedule

  schedule_is : (cost : ℕ) → priced cost Schedule s ≡ goes cost (core r ws hs wi or true)
  unfolding Schedule charged
  schedule_is cost = let z : cost + 0 ≡ cost = omega arith in rw (append-nil, z)

  pub schedule_turned : (cost : ℕ) {q : Turn} {lim : Limits} → Charging lim r cost r q
      → Turned lim r (buffers st he wi or) (priced cost Schedule s) (closed q) (buffers st he wi or)
  schedule_turned cost (turned.late p e) =
      turned.late cost (core r ws hs wi or true) (schedule_is cost) p (ap closed e) refl
  schedule_turned cost (turned.deep p k e) =
      turned.deep cost (core r ws hs wi or true) (schedule_is cost) p (rw h.sp at k) (ap closed e) refl
  schedule_turned cost (turned.full p k m e) =
      turned.full cost (core r ws hs wi or true) (schedule_is cost) p (rw h.sp at k) (rw h.hp at m) (ap closed e) refl
  schedule_turned cost (turned.pays p k m e) =
      went cost (core r ws hs wi or true) (schedule_is cost)
      (record {
        next = r;
        turn = ap closed e;
        is = refl;
        holds = h;
        time = p;
        depth = rw h.sp at k;
        heap = rw h.hp at m;
      })

  -- ---- If

  pub if_few : (cost to : ℕ) {b : Buffers} {q : Turn} {lim : Limits} → r.sp - r.lp < 1 → q ≡ halt r (ending.Fault 1)
      → Turned lim r b (priced cost (If to) s) q b
  unfolding If
  if_few cost to {b} {q} k e =
      stops cost _ r b s (fault 1)
      (need_no (leb 1 (values s)) 1 _
      (λ t. let v : 1 ≤ r.sp - r.lp = rw (values_are h wi or false) at (leb→le 1 (values s) t) in omega arith))
      e

  if_kind : (cost to : ℕ) {b : Buffers} {q : Turn} {lim : Limits} → 1 ≤ r.sp - r.lp → is_cell hs (below ws 0) bool_header ≡ false
      → q ≡ halt r (ending.Fault 2) → Turned lim r b (priced cost (If to) s) q b
  unfolding If
  if_kind cost to {b} {q} k z e =
      stops cost _ r b s (fault 2)
      (need_yes (leb 1 (values s)) 1 _ (le→leb 1 (values s) (rw (values_are h wi or false) k))
      ∙ need_no (is_cell hs (below ws 0) bool_header) 2 _ (not_so z))
      e

  small_top : Smalls ws → Small (below ws 0)
  unfolding below
  small_top m = m.each (length ws - (0 + 1))

  module _ (m : Smalls ws) (k : 1 ≤ r.sp - r.lp) (n : ℕ) (e : n ≡ get_or st (r.sp - 1) 0) where
    top_is : n ≡ bits (below ws 0)
    top_is = reads_below h 0 n (omega arith) e

    pub if_no_ref : (cost to : ℕ) {b : Buffers} {q : Turn} {lim : Limits} → (n / 2 ^ 28 ≡ 1 → ⊥) → q ≡ halt r (ending.Fault 2)
        → Turned lim r b (priced cost (If to) s) q b
    if_no_ref cost to z g = if_kind cost to k (cell_no top_is (small_top m) hs bool_header z) g

    pub ref_inside : Refs r st → n / 2 ^ 28 ≡ 1 → n % 2 ^ 28 + 2 ≤ r.hp
    ref_inside a z =
        subst (λ (x : ℕ). x % 2 ^ 28 + 2 ≤ r.hp) (sym e)
        (a.each (r.sp - 1) (omega arith) (subst (λ (x : ℕ). x / 2 ^ 28 ≡ 1) e z))

    module _ (a : Refs r st) (z : n / 2 ^ 28 ≡ 1) where
      bool_test : is_cell hs (below ws 0) bool_header ≡ eqb (get_or he (n % 2 ^ 28) 0) bool_header
      bool_test =
          let i = ref_inside a z in
          cell_is_lem top_is (small_top m) bool_header z h.heap (omega (arith, h.hp, i))

      pub if_no_bool : (cost to : ℕ) {b : Buffers} {q : Turn} {lim : Limits} → (get_or he (n % 2 ^ 28) 0 ≡ 65536 → ⊥)
          → q ≡ halt r (ending.Fault 2) → Turned lim r b (priced cost (If to) s) q b
      if_no_bool cost to y g = if_kind cost to k (bool_test ∙ ne_eqb (get_or he (n % 2 ^ 28) 0) 65536 y) g

      flag_is : second hs (below ws 0) ≡ get_or he (n % 2 ^ 28 + 1) 0
      flag_is =
          let i = ref_inside a z in
          second_is top_is (small_top m) h.heap (omega (arith, h.hp, i))

      if_leads : (cost b to : ℕ) → get_or he (n % 2 ^ 28) 0 ≡ 65536
          → pick (eqb (second hs (below ws 0)) 1) (at b s.regs) (state.next s.regs) ≡ at to s.regs
          → Leads cost (priced cost (If b) s) (heading r to (r.sp - 1)) (without 1 ws) hs wi or
      unfolding If
      if_leads cost b to y g =
          let x = length_without 1 ws in
          lead_still cost s (heading r to (r.sp - 1))
          (need_yes (leb 1 (values s)) 1 _ (le→leb 1 (values s) (rw (values_are h wi or false) k))
          ∙ need_yes (is_cell hs (below ws 0) bool_header) 2 _ (of_true (bool_test ∙ eq-eqb (get_or he (n % 2 ^ 28) 0) 65536 y))
          ∙ ap (λ (x : state.Regs). goes 0 (leaving s x (without 1 ws) [])) g)
          (omega (arith, h.sp, x))
          h.hp
          (h.lp ∙ ap (λ (x : ℕ). r.fp + x) (sym (locals_without r.fp 1 ws (omega (arith, h.sp, f.fp)))))

      pub if_jumps : (cost b to : ℕ) → get_or he (n % 2 ^ 28) 0 ≡ 65536 → get_or he (n % 2 ^ 28 + 1) 0 ≡ 1 → to ≡ b
          → Leads cost (priced cost (If b) s) (heading r to (r.sp - 1)) (without 1 ws) hs wi or
      if_jumps cost b to y v g =
          if_leads cost b to y
          (pick_true (eqb (second hs (below ws 0)) 1) _ _ (eqb_of _ 1 (flag_is ∙ v))
          ∙ ap (λ (x : ℕ). at x s.regs) (sym g))

      pub if_stays : (cost b to : ℕ) → get_or he (n % 2 ^ 28) 0 ≡ 65536 → (get_or he (n % 2 ^ 28 + 1) 0 ≡ 1 → ⊥)
          → to ≡ r.pc + 1 → Leads cost (priced cost (If b) s) (heading r to (r.sp - 1)) (without 1 ws) hs wi or
      if_stays cost b to y v g =
          if_leads cost b to y
          (pick_false (eqb (second hs (below ws 0)) 1) _ _ (λ t. v (sym flag_is ∙ eqb→eq _ 1 t))
          ∙ ap (λ (x : ℕ). at x s.regs) (sym g))

  -- ---- Call

  abbrev pub called : List Word
  called = ws ++ ret (r.pc + 1) ∷ rules r.rs r.rp ∷ static r.slp ∷ []

  pub call_leads : (P : Program) (cost a to : ℕ) → P.entry a ≡ to
      → Leads cost (priced cost (Call P a) s) (entering r a to) called hs wi or
  unfolding Call
  call_leads P cost a to e =
      let us : List Word = ret (r.pc + 1) ∷ rules r.rs r.rp ∷ static r.slp ∷ [] in
      let y = length-append ws us in
      let z : length ws + 3 + 1 ≡ r.sp + 4 = omega (arith, h.sp) in
      lead_still cost s (entering r a to)
      (λ i.
      goes 0
      (leaving s
      (record { pc = e i; fp = r.fp; slp = z i; rp = 0; mp = r.mp; inp = r.inp; rs = a })
      (ws ++ us)
      []))
      (omega (arith, h.sp, y))
      h.hp
      (h.lp ∙ ap (λ (n : ℕ). r.fp + n) (sym (locals_append r.fp ws us (omega (arith, h.sp, f.fp, f.lp)))))

  ret_bits : (n : ℕ) → n ≡ 805306368 + (r.pc + 1) → n ≡ bits (ret (r.pc + 1))
  unfolding bits
  ret_bits n e = omega (arith, e)

  rules_bits : (n : ℕ) → n ≡ 1073741824 + (r.rs * 256 + r.rp) → n ≡ bits (rules r.rs r.rp)
  unfolding bits
  rules_bits n e = omega (arith, e)

  static_bits : (n : ℕ) → n ≡ 1342177280 + r.slp → n ≡ bits (static r.slp)
  unfolding bits
  static_bits n e = omega (arith, e)

  pub call_bears : (x y z : ℕ) → x ≡ 805306368 + (r.pc + 1) → y ≡ 1073741824 + (r.rs * 256 + r.rp)
      → z ≡ 1342177280 + r.slp → r.sp + 3 ≤ length st
      → Bears (set (set (set st r.sp x) (r.sp + 1) y) (r.sp + 2) z) called
  call_bears x y z p q t k =
      let u : Word = ret (r.pc + 1) in
      let v : Word = rules r.rs r.rp in
      let w : Word = static r.slp in
      let l1 = set st r.sp x in
      let l2 = set l1 (r.sp + 1) y in
      let n1 = length-set st r.sp x in
      let n2 = length-set l1 (r.sp + 1) y in
      let m1 = length-append ws (u ∷ []) in
      let m2 = length-append (ws ++ u ∷ []) (v ∷ []) in
      let b1 = bears_push st ws u r.sp x h.stack h.sp (ret_bits x p) (omega arith) in
      let b2 = bears_push l1 (ws ++ u ∷ []) v (r.sp + 1) y b1 (omega (arith, h.sp, m1)) (rules_bits y q) (omega (arith, n1)) in
      let b3 =
      bears_push l2 ((ws ++ u ∷ []) ++ v ∷ []) w (r.sp + 2) z b2 (omega (arith, h.sp, m1, m2)) (static_bits z t)
      (omega (arith, n1, n2)) in
      subst (λ (o : List Word). Bears (set l2 (r.sp + 2) z) o)
      (append_snoc (ws ++ u ∷ []) v (w ∷ []) ∙ append_snoc ws u (v ∷ w ∷ []))
      b3

  -- ---- Return

  pub return_few : (cost : ℕ) {b : Buffers} {q : Turn} {lim : Limits} → r.sp - r.lp < 1 → q ≡ halt r (ending.Fault 1)
      → Turned lim r b (priced cost Return s) q b
  unfolding Return
  return_few cost {b} {q} k e =
      stops cost _ r b s (fault 1)
      (need_no (leb 1 (values s)) 1 _
      (λ t. let v : 1 ≤ r.sp - r.lp = rw (values_are h wi or false) at (leb→le 1 (values s) t) in omega arith))
      e

  module _ (m : Smalls ws) where
    -- the word k below fp
    word_at : (k : ℕ) → 4 ≤ r.fp → 0 < k → k ≤ 4 → get_or st (r.fp - k) 0 ≡ bits (get_or ws (r.fp - k) null)
    word_at k d a b = h.stack.get (r.fp - k) (omega (arith, h.sp, f.fp, f.lp))

    type_at : (k : ℕ) → 4 ≤ r.fp → 0 < k → k ≤ 4 → get_or st (r.fp - k) 0 / 2 ^ 28 ≡ (get_or ws (r.fp - k) null).type
    type_at k d a b = type_is (word_at k d a b) (m.each (r.fp - k))

    payload_at : (k : ℕ) → 4 ≤ r.fp → 0 < k → k ≤ 4
        → get_or st (r.fp - k) 0 % 2 ^ 28 ≡ (get_or ws (r.fp - k) null).payload
    payload_at k d a b = payload_is (word_at k d a b) (m.each (r.fp - k))

    -- what the code tests of the four words is what the machine does
    frame_test : Framed r st → frame_ok s ≡ framed st r.fp
    unfolding frame_ok saved framed
    frame_test g = by (ℕ_discrete r.fp 0)
      where
        by : Dec (r.fp ≡ 0) → frame_ok s ≡ framed st r.fp
        by (yes z) =
            and_off _ (ap not (eq-eqb r.fp 0 z)) ∙ sym (and_off _ (lt-leb 4 r.fp (omega (arith, z))))
        by (no z) =
            let b = g.back (omega (arith, z)) in
            let d : 4 ≤ r.fp = omega arith in
            rw (ne_eqb r.fp 0 z, le-leb 4 r.fp d, type_at 4 d (omega arith) (omega arith), type_at 3 d (omega arith) (omega arith), type_at 2 d (omega arith) (omega arith), type_at 1 d (omega arith) (omega arith)) refl

    pub return_bad : (cost : ℕ) {b : Buffers} {q : Turn} {lim : Limits} → 1 ≤ r.sp - r.lp → Framed r st → framed st r.fp ≡ false
        → q ≡ halt r (ending.Fault 4) → Turned lim r b (priced cost Return s) q b
    unfolding Return
    return_bad cost {b} {q} k g z e =
        stops cost _ r b s (fault 4)
        (need_yes (leb 1 (values s)) 1 _ (le→leb 1 (values s) (rw (values_are h wi or false) k))
        ∙ need_no (frame_ok s) 4 _ (not_so (frame_test g ∙ z)))
        e

    -- the frame that is gone back to is whole in what is left
    back_locals : (o : Word) (p : ℕ) → p + 4 ≤ r.fp → locals p (take (r.fp - 4) ws ++ o ∷ []) ≡ locals p ws
    back_locals o p k =
        let d = length-take-le (r.fp - 4) ws (omega (arith, h.sp, f.fp, f.lp)) in
        locals_append p (take (r.fp - 4) ws) (o ∷ []) (omega (arith, d)) ∙ locals_take p (r.fp - 4) ws (omega arith)

    pub return_leads : (cost lp : ℕ) → 1 ≤ r.sp - r.lp → Framed r st → framed st r.fp ≡ true
        → lp ≡ get_or st (r.fp - 1) 0 % 2 ^ 28 / 256 + locals (get_or st (r.fp - 1) 0 % 2 ^ 28 / 256) ws
        → Leads cost (priced cost Return s) (restored r st lp) (take (r.fp - 4) ws ++ below ws 0 ∷ []) hs wi or
    unfolding Return saved
    return_leads cost lp k g z l =
        let d = framed_deep st r.fp z in
        let vs = take (r.fp - 4) ws ++ below ws 0 ∷ [] in
        let p4 = payload_at 4 d (omega arith) (omega arith) in
        let p3 = payload_at 3 d (omega arith) (omega arith) in
        let p2 = payload_at 2 d (omega arith) (omega arith) in
        let p1 = payload_at 1 d (omega arith) (omega arith) in
        let lo = low_byte (get_or ws (r.fp - 3) null) (word_at 3 d (omega arith) (omega arith)) in
        let o = length-append (take (r.fp - 4) ws) (below ws 0 ∷ []) in
        let u = length-take-le (r.fp - 4) ws (omega (arith, h.sp, f.fp, f.lp)) in
        lead_still cost s (restored r st lp)
        (need_yes (leb 1 (values s)) 1 _ (le→leb 1 (values s) (rw (values_are h wi or false) k))
        ∙ need_yes (frame_ok s) 4 _ (of_true (frame_test g ∙ z))
        ∙ sym
        (λ i.
        goes 0
        (leaving s
        (record {
          pc = p4 i;
          fp = p1 i / 256;
          slp = p2 i;
          rp = lo i;
          mp = r.mp;
          inp = r.inp;
          rs = p3 i / 256;
        })
        vs
        [])))
        (omega (arith, h.sp, o, u, d))
        h.hp
        (l
        ∙ ap (λ (n : ℕ). get_or st (r.fp - 1) 0 % 2 ^ 28 / 256 + n)
        (sym (back_locals (below ws 0) (get_or st (r.fp - 1) 0 % 2 ^ 28 / 256) (g.back (omega arith)))))

    pub return_bears : (n : ℕ) → 4 ≤ r.fp → r.sp ≤ length st → n ≡ bits (below ws 0)
        → Bears (set st (r.fp - 4) n) (take (r.fp - 4) ws ++ below ws 0 ∷ [])
    return_bears n d k e =
        let u = length-take-le (r.fp - 4) ws (omega (arith, h.sp, f.fp, f.lp)) in
        bears_push st (take (r.fp - 4) ws) (below ws 0) (r.fp - 4) n
        (bears_take st ws (r.fp - 4) (omega (arith, h.sp, f.fp, f.lp)) h.stack)
        (sym u)
        e (omega (arith, f.fp, f.lp, d))
