-- What matching leads to.
use Rattle.std.specs.Prelude.{Option, Some, None, Result, Ok, Err}
use mathlib.Core.Path.{◌≡◌, refl, sym, ap, ◌∙◌, subst}
use mathlib.Core.Bool.{Bool, true, false, not}
use mathlib.Core.List.{List, [], ◌∷◌, ◌++◌, append-nil, append_assoc}
use Prim.Native.Nat.{ℕ, suc, ◌+◌, ◌-◌, ◌*◌, ◌/◌, ◌%◌, ◌^◌, ◌≤◌, ◌<◌}
use native.Mathlib.Omega.{arith}
use lib.Dec.{T, leb, ltb, eqb, leb→le, le→leb, ltb→lt, lt→ltb}
use lib.ListN.{length, get_or, take, drop, set, length-drop}
use lib.Seq.{paste, length_paste_head, length-take-le, drop-cons, set_at}
use borrow.Author.Tests.{eq-eqb, ne_eqb}
use Rattle.limits.specs.Machine.{ends, goes}
use Rattle.hume.specs.Tests.{pick}
use Rattle.hume.specs.Words.{Word, null, bits, is_value}
use Rattle.hume.specs.Image.{Program, order_at}
use Rattle.hume.specs.Values.{is_empty, wire_count}
use Rattle.hume.specs.State.{State, fault, no_rule, Deed, at, next, leaving, turns, fails, lp, is_cell, second, rule_at, rule_count}
use Rattle.hume.specs.Instructions.{StartMatches, MatchRule, MatchedRule, MatchNone, MatchAvailable, moved, argument, has_argument, matches, cell_is}
use Rattle.hume.specs.Instructions.{Reorder, reordered, move_last}
use Rattle.hume.specs.Machine.{charged}
use Rattle.laws.specs.Sizes.{Small}
use Rattle.laws.proofs.Tests.{of_true, pick_true, pick_false}
use Rattle.laws.proofs.Deeds.{need_yes, need_no}
use Rattle.engine.specs.Fits.{Fit}
use Rattle.engine.specs.Turns.{Bears, plain, core, Holds, halt, Buffers, Turned, Meets, priced}
use Rattle.engine.specs.Attempts.{seeks_cell, seeks, tallied, concludes, Attempted, faulty, tries, Attempts}
use Rattle.engine.specs.declared.Ending.{Ending}
use Rattle.engine.specs.declared.Ending.TheVariants as ending
use Rattle.engine.specs.Limits.{Limits}
use Rattle.engine.specs.declared.regs.Regs.{Regs}
use Rattle.engine.specs.declared.regs.Turn.{Turn}
use Rattle.engine.specs.declared.matching.Attempt.{Attempt}
use Rattle.engine.specs.declared.matching.Pattern.{Pattern}
use Rattle.engine.proofs.After.{after}
use Rattle.engine.proofs.Turning.{Leads, Borne, stops, lead_still, turned_as}
use Rattle.engine.proofs.Areas.{locals_take, bears_take}
use Rattle.engine.proofs.WordKinds.{cell_no, cell_is_lem, second_is}

-- ---- the cell that a word refers to

module _ {n : ℕ} {v : Word} (e : n ≡ bits v) (s : Small v) {he : List ℕ} {hs : List Word} (h : Bears he hs)
    (inside : n / 2 ^ 28 ≡ 1 → n % 2 ^ 28 + 2 ≤ length hs) (p : Pattern) where
  -- no cell at all, or one with another header
  seeks_none : is_cell hs v p.header ≡ false → false ≡ seeks p hs v
  unfolding seeks cell_is
  seeks_none q = by p.second
    where
      by : (o : Option ℕ) → false ≡ seeks_cell p.header o hs v
      by None = sym q
      by (Some x) = rw q refl

  pub seeks_other : (n / 2 ^ 28 ≡ 1 → ⊥) → false ≡ seeks p hs v
  seeks_other q = seeks_none (cell_no e s hs p.header q)

  cell_here : n / 2 ^ 28 ≡ 1 → is_cell hs v p.header ≡ eqb (get_or he (n % 2 ^ 28) 0) p.header
  cell_here q =
      let l : n % 2 ^ 28 + 2 ≤ length hs = inside q in
      cell_is_lem e s p.header q h (omega arith)

  pub seeks_header : n / 2 ^ 28 ≡ 1 → (get_or he (n % 2 ^ 28) 0 ≡ p.header → ⊥) → false ≡ seeks p hs v
  seeks_header q d = seeks_none (cell_here q ∙ ne_eqb _ _ d)

  -- MatchExn asks for no more
  pub seeks_any : n / 2 ^ 28 ≡ 1 → get_or he (n % 2 ^ 28) 0 ≡ p.header → p.second ≡ None → true ≡ seeks p hs v
  unfolding seeks
  seeks_any q d o = rw o (sym (cell_here q ∙ eq-eqb _ _ d))

  pub seeks_second : (x : ℕ) → n / 2 ^ 28 ≡ 1 → get_or he (n % 2 ^ 28) 0 ≡ p.header → p.second ≡ Some x
      → eqb (get_or he (n % 2 ^ 28 + 1) 0) x ≡ seeks p hs v
  unfolding seeks cell_is
  seeks_second x q d o =
      let l : n % 2 ^ 28 + 2 ≤ length hs = inside q in
      let z : second hs v ≡ get_or he (n % 2 ^ 28 + 1) 0 = second_is e s h (omega arith) in
      rw o (sym (rw (cell_here q, eq-eqb _ _ d, z) refl))

-- ---- the registers after an instruction that matches

-- at another instruction, with this rp, mp and inp
abbrev pub routed : Regs → ℕ → ℕ → ℕ → ℕ → Regs
routed r pc rp mp inp =
    after r pc r.sp r.hp r.fp r.lp r.slp rp mp inp r.rs

-- and without values
abbrev pub emptied : Regs → ℕ → ℕ → ℕ → Regs
emptied r rp mp inp =
    after r (r.pc + 1) r.lp r.hp r.fp r.lp r.slp rp mp inp r.rs

module _ {r : Regs} {st he : List ℕ} {ws hs : List Word} (h : Holds r st he ws hs) (wi or : List ℕ) where
  abbrev s : State
  s = core r ws hs wi or false

  -- new registers alone
  routes : (cost pc rp mp inp : ℕ) {d : Deed} → d ≡ turns s (plain (routed r pc rp mp inp))
      → Leads cost (charged cost s d) (routed r pc rp mp inp) ws hs wi or
  routes cost pc rp mp inp p = lead_still cost s (routed r pc rp mp inp) p h.sp h.hp h.lp

  -- the buffers stay
  pub stays : Borne (record { stack = st; heap = he; wires = wi; order = or }) ws hs wi or
  stays = record { stack = h.stack; heap = h.heap; wires = refl; order = refl }

  -- "22 StartMatches: to the current ruleset's rule at order 0"
  pub start_leads : (P : Program) (cost to : ℕ) → to ≡ P.rule r.rs (get_or or (order_at P r.rs + 0) 0)
      → Leads cost (priced cost (StartMatches P) s) (routed r to r.rp r.mp r.inp) ws hs wi or
  unfolding StartMatches rule_at
  start_leads P cost to e =
      routes cost to r.rp r.mp r.inp (ap (λ (x : ℕ). turns s (at x (plain r))) (sym e))

  -- "25 MatchNone: mp + 1, inp + 1"
  pub none_leads : (cost : ℕ)
      → Leads cost (priced cost MatchNone s) (routed r (r.pc + 1) r.rp (r.mp + 1) (r.inp + 1)) ws hs wi or
  unfolding MatchNone
  none_leads cost = routes cost (r.pc + 1) r.rp (r.mp + 1) (r.inp + 1) refl

  -- a match that succeeds,
  pub hit_leads : (P : Program) (cost : ℕ) (t : Attempt) → t.hit ≡ true
      → Leads cost (priced cost (concludes P t) s) (routed r (r.pc + 1) r.rp t.mp t.inp) ws hs wi or
  unfolding concludes
  hit_leads P cost t e = routes cost (r.pc + 1) r.rp t.mp t.inp (pick_true t.hit _ _ (of_true e))

  -- one that fails,
  pub miss_leads : (P : Program) (cost to : ℕ) (t : Attempt) → t.hit ≡ false → r.rp < P.count r.rs
      → to ≡ P.rule r.rs (get_or or (order_at P r.rs + r.rp) 0)
      → Leads cost (priced cost (concludes P t) s) (routed r to r.rp t.mp t.inp) ws hs wi or
  unfolding concludes fails rule_at rule_count
  miss_leads P cost to t m k e =
      routes cost to r.rp t.mp t.inp
      (pick_false t.hit _ _ (λ u. subst T m u)
      ∙ pick_true (ltb r.rp (P.count r.rs)) _ (ends no_rule) (lt→ltb _ _ k)
      ∙ ap (λ (x : ℕ). turns s (at x (tallied (plain r) t.mp t.inp))) (sym e))

  -- and one after which no rule is left
  pub miss_ends : (P : Program) (cost : ℕ) (t : Attempt) {lim : Limits} {b : Buffers} {q : Turn} → t.hit ≡ false
      → P.count r.rs ≤ r.rp → q ≡ halt r ending.NoRule
      → Turned lim r b (priced cost (concludes P t) s) q b
  unfolding concludes fails rule_at rule_count
  miss_ends P cost t {lim} {b} {q} m k e =
      stops cost lim r b s no_rule
      (pick_false t.hit _ _ (λ u. subst T m u)
      ∙ pick_false (ltb r.rp (P.count r.rs)) _ (ends no_rule)
      (λ t. let l : r.rp < P.count r.rs = ltb→lt _ _ t in absurd (omega arith)))
      e

  -- ---- values dropped

  lp_is : lp s ≡ r.lp
  unfolding lp
  lp_is = sym h.lp

  module _ (f : Fit r) where
    room : r.lp ≤ length ws
    room =
        let a : r.lp ≤ r.sp = f.lp in
        let b : r.sp ≡ length ws = h.sp in
        omega arith

    empties : (cost rp mp inp : ℕ) {d : Deed}
        → d ≡ goes 0 (leaving s (plain (emptied r rp mp inp)) (take (lp s) ws) [])
        → Leads cost (charged cost s d) (emptied r rp mp inp) (take r.lp ws) hs wi or
    empties cost rp mp inp p =
        lead_still cost s (emptied r rp mp inp)
        (p ∙ ap (λ (x : ℕ). goes 0 (leaving s (plain (emptied r rp mp inp)) (take x ws) [])) lp_is)
        (sym (length-take-le r.lp ws room))
        h.hp
        (h.lp ∙ ap (λ (x : ℕ). r.fp + x) (sym (locals_take r.fp r.lp ws f.fp)))

    pub drops : Borne (record { stack = st; heap = he; wires = wi; order = or }) (take r.lp ws) hs wi or
    drops = record { stack = bears_take st ws r.lp room h.stack; heap = h.heap; wires = refl; order = refl }

    -- "23 MatchRule: rp + 1, mp and inp 0, values dropped"
    pub rule_leads : (P : Program) (cost : ℕ) → r.rp < P.count r.rs
        → Leads cost (priced cost (MatchRule P) s) (emptied r (r.rp + 1) 0 0) (take r.lp ws) hs wi or
    unfolding MatchRule rule_count
    rule_leads P cost k = empties cost (r.rp + 1) 0 0 (need_yes (ltb r.rp (P.count r.rs)) 7 _ (lt→ltb _ _ k))

    -- "24 MatchedRule: values dropped"
    pub matched_leads : (cost : ℕ)
        → Leads cost (priced cost MatchedRule s) (emptied r r.rp r.mp r.inp) (take r.lp ws) hs wi or
    unfolding MatchedRule
    matched_leads cost = empties cost r.rp r.mp r.inp refl

  -- "7 MatchRule with rp at the count"
  pub rule_none : (P : Program) (cost : ℕ) {lim : Limits} {b : Buffers} {q : Turn} → P.count r.rs ≤ r.rp
      → q ≡ halt r (ending.Fault 7) → Turned lim r b (priced cost (MatchRule P) s) q b
  unfolding MatchRule rule_count
  rule_none P cost {lim} {b} {q} k e =
      stops cost lim r b s (fault 7)
      (need_no (ltb r.rp (P.count r.rs)) 7 _
      (λ t. let l : r.rp < P.count r.rs = ltb→lt _ _ t in absurd (omega arith)))
      e

  -- ---- attempts

  module _ (P : Program) where
    -- "26 MatchAvailable": there is no such input,
    pub available_none : P.inputs ≤ r.inp → MatchAvailable P s ≡ ends (fault 3)
    unfolding MatchAvailable
    available_none k =
        need_no (ltb r.inp P.inputs) 3 _
        (λ t. let l : r.inp < P.inputs = ltb→lt _ _ t in absurd (omega arith))

    -- or it is tried
    pub available_tries : r.inp < P.inputs
        → MatchAvailable P s ≡ concludes P (record { hit = not (eqb (get_or wi (65 * r.inp) 0) 0); mp = r.mp; inp = r.inp + 1 }) s
    unfolding MatchAvailable is_empty wire_count concludes pick
    available_tries k =
        let z : r.mp + 0 ≡ r.mp = omega arith in
        need_yes (ltb r.inp P.inputs) 3 _ (lt→ltb _ _ k)
        ∙ ap (λ (m : ℕ). pick (eqb (get_or wi (65 * r.inp) 0) 0) (fails P s (tallied (plain r) m (r.inp + 1))) (turns s (next (tallied (plain r) m (r.inp + 1))))) z
        ∙ turn_round (eqb (get_or wi (65 * r.inp) 0) 0) _ _
      where
        turn_round : (t : Bool) (x y : Deed) → pick t x y ≡ pick (not t) y x
        turn_round true x y = refl
        turn_round false x y = refl

    module _ (test : List Word → Word → Bool) where
      -- 27 to 32: there is no such argument,
      pub compare_none : r.fp < 5 + r.mp → matches P test s ≡ ends (fault 3)
      unfolding matches has_argument
      compare_none k =
          need_no (leb (5 + r.mp) r.fp) 3 _
          (λ t. let l : 5 + r.mp ≤ r.fp = leb→le _ _ t in absurd (omega arith))

      -- or it is no value,
      pub compare_kind : 5 + r.mp ≤ r.fp → is_value (get_or ws (r.fp - (5 + r.mp)) null) ≡ false
          → matches P test s ≡ ends (fault 2)
      unfolding matches has_argument argument
      compare_kind k v =
          need_yes (leb (5 + r.mp) r.fp) 3 _ (le→leb _ _ k)
          ∙ need_no (is_value (get_or ws (r.fp - (5 + r.mp)) null)) 2 _ (λ t. subst T v t)

      -- or it is compared
      pub compare_tries : (hit : Bool) → 5 + r.mp ≤ r.fp → is_value (get_or ws (r.fp - (5 + r.mp)) null) ≡ true
          → hit ≡ test hs (get_or ws (r.fp - (5 + r.mp)) null)
          → matches P test s ≡ concludes P (record { hit = hit; mp = r.mp + 1; inp = r.inp }) s
      unfolding matches has_argument argument concludes
      compare_tries hit k v e =
          let z : r.inp + 0 ≡ r.inp = omega arith in
          need_yes (leb (5 + r.mp) r.fp) 3 _ (le→leb _ _ k)
          ∙ need_yes (is_value (get_or ws (r.fp - (5 + r.mp)) null)) 2 _ (of_true v)
          ∙ ap (λ (t : Bool). pick t (turns s (next (moved (plain r) 1 0))) (fails P s (moved (plain r) 1 0))) (sym e)
          ∙ ap (λ (m : ℕ). pick hit (turns s (next (tallied (plain r) (r.mp + 1) m))) (fails P s (tallied (plain r) (r.mp + 1) m))) z

  -- the argument's word
  pub argument_word : (n p : ℕ) → p < r.sp → n ≡ get_or st p 0 → n ≡ bits (get_or ws p null)
  argument_word n p k e = let l : r.sp ≡ length ws = h.sp in e ∙ h.stack.get p (omega arith)

-- ---- what an attempt comes to

module _ {P : Program} {act : State → Deed} {o : Result Attempt Ending} {lim : Limits} {r : Regs} {b : Buffers} {q : Turn}
    (cost : ℕ) (a : Attempts P r b act o) where
  pub attempt_faults : (e : Ending) → o ≡ Err e → q ≡ halt r e → Meets lim r b (priced cost act) q b
  attempt_faults e f g =
      record { each = λ ws hs h m n. by (core r ws hs b.wires b.order false) (a.each ws hs h m n) }
    where
      by : (s : State) {d : Deed} → Attempted P s d o → Turned lim r b (charged cost s d) q b
      by s (faulty k i p) = stops cost lim r b s (fault k) p (g ∙ ap (halt r) (let s = sym f ∙ i in cc))
      by s (tries t i p) = absurd (let s = sym i ∙ f in cc)

  pub attempt_goes : {b' : Buffers} (t : Attempt) → o ≡ Ok t → Meets lim r b (priced cost (concludes P t)) q b'
      → Meets lim r b (priced cost act) q b'
  attempt_goes {b'} t f g =
      record {
        each = λ ws hs h m n. by (core r ws hs b.wires b.order false) (a.each ws hs h m n) (g.each ws hs h m n);
      }
    where
      by : (s : State) {d : Deed} → Attempted P s d o → Turned lim r b (charged cost s (concludes P t s)) q b'
          → Turned lim r b (charged cost s d) q b'
      by s (faulty k i p) e = absurd (let s = sym f ∙ i in cc)
      by s (tries u i p) e = turned_as cost s (p ∙ ap (λ (x : Attempt). concludes P x s) (let s = sym i ∙ f in cc)) e

-- ---- a word moved last

-- those between moved down one, and the first put last
pub moved_last : (l : List ℕ) (i j : ℕ) → i < j → j ≤ length l
    → set (paste l i (drop (i + 1) l) (j - (i + 1))) (j - 1) (get_or l i 0) ≡ move_last l i j
unfolding move_last
moved_last l i j a b =
    let n : ℕ = j - (i + 1) in
    let v : ℕ = get_or l i 0 in
    let s : List ℕ = drop (i + 1) l in
    let front : List ℕ = take i l ++ take n s in
    let d : length s ≡ length l - (i + 1) = length-drop (i + 1) l in
    let long : length front ≡ i + n = length_paste_head l i s n (omega arith) (omega (arith, d)) in
    let k : j - 1 ≡ i + n = omega arith in
    let m : suc (i + n) ≡ j = omega arith in
    ap (λ (x : ℕ). set (front ++ drop (i + n) l) x v) k
    ∙ ap (λ (x : List ℕ). set (front ++ x) (i + n) v) (drop-cons l (i + n) 0 (omega arith))
    ∙ set_at front (get_or l (i + n) 0) (drop (suc (i + n)) l) v (i + n) long
    ∙ ap (λ (x : ℕ). front ++ v ∷ drop x l) m
    ∙ append_assoc (take i l) (take n s) (v ∷ drop j l)

-- "34 Reorder"
module _ {r : Regs} {st he : List ℕ} {ws hs : List Word} (h : Holds r st he ws hs) (wi or : List ℕ) (P : Program) where
  abbrev u : State
  u = core r ws hs wi or false

  pub reorder_leads : (cost : ℕ)
      → Leads cost (priced cost (Reorder P) u) (routed r (r.pc + 1) r.rp r.mp r.inp) ws hs wi (reordered P u)
  unfolding Reorder charged
  reorder_leads cost =
      let z : cost + 0 ≡ cost = omega arith in
      record { same = rw (append-nil, z); sp = h.sp; hp = h.hp; lp = h.lp }

  pub reordered_moves : (from n : ℕ) {x : List ℕ} → from ≡ order_at P r.rs → n ≡ P.count r.rs → r.rp < n
      → x ≡ move_last or (from + r.rp) (from + n) → x ≡ reordered P u
  unfolding reordered rule_count
  reordered_moves from n e q k p =
      p
      ∙ ap (λ (y : ℕ). move_last or (y + r.rp) (y + n)) e
      ∙ ap (λ (y : ℕ). move_last or (order_at P r.rs + r.rp) (order_at P r.rs + y)) q
      ∙ sym (pick_true (ltb r.rp (P.count r.rs)) _ _ (lt→ltb _ _ (rw q at k)))

  pub reordered_stays : P.count r.rs ≤ r.rp → or ≡ reordered P u
  unfolding reordered rule_count
  reordered_stays k =
      sym
      (pick_false (ltb r.rp (P.count r.rs)) _ _
      (λ t. let l : r.rp < P.count r.rs = ltb→lt _ _ t in absurd (omega arith)))
