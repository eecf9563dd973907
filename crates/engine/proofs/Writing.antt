-- What Write leads to.
use mathlib.Core.Path.{◌≡◌, refl, sym, ap, ◌∙◌, subst}
use mathlib.Core.Bool.{Bool, true, false}
use mathlib.Core.List.{List, [], ◌∷◌, ◌++◌, append_assoc}
use Prim.Native.Nat.{ℕ, suc, ◌+◌, ◌-◌, ◌*◌, ◌^◌, ◌≤◌, ◌<◌}
use native.Mathlib.Omega.{arith}
use native.Mathlib.Numerals.{add-one}
use lib.Dec.{T, leb, eqb, leb→le, le→leb, eqb→eq}
use lib.ListN.{length, get_or, set, take, drop, replicate, length-append, length-drop, length-replicate, get_or-replicate, take-append-drop}
use lib.Seq.{sets, paste, sets-eq, set-get_or, get_or-append-add, get_or-take, get_or-drop, length-take-le, drop-drop, ext_get_or}
use Rattle.std.specs.Prelude.{Option, Some, None, option_map, Result, Ok, Err}
use Rattle.limits.specs.Machine.{Act, ends}
use Rattle.hume.specs.Tests.{pick, all}
use Rattle.hume.specs.Words.{Word, null, link, raw, bits, is_ref, is_none, is_value}
use Rattle.hume.specs.Image.{Program}
use Rattle.hume.specs.Values.{spread, wire_count, is_empty, set_wire, wire_ok}
use Rattle.hume.specs.State.{State, End, fault, Deed, locals, values, need, rewires, below, without}
use Rattle.hume.specs.Instructions.{output_at, Write}
use Rattle.laws.specs.Sizes.{Small}
use Rattle.laws.specs.Accepted.{WiresFit}
use Rattle.laws.specs.Whole.{Held, none_held, ref_held}
use Rattle.reach.specs.Sound.{Plain, Frames, Sound}
use Rattle.laws.proofs.Tests.{of_true, and_left, and_right, eqb_of, pick_true, pick_false, all_at}
use Rattle.laws.proofs.Words.{bits_raw}
use Rattle.laws.proofs.Small.{small_raw, raw_bits}
use Rattle.laws.proofs.Deeds.{need_yes, need_no}
use Rattle.engine.specs.Fits.{Fit}
use Rattle.engine.specs.Copies.{WireFits, Readable, Spread, Offered, unless, room_of, TopHeld}
use Rattle.engine.specs.Turns.{Smalls, core, Holds, halt, Buffers, buffers, Turned, priced}
use Rattle.engine.specs.declared.Ending.{Ending}
use Rattle.engine.specs.declared.Ending.TheVariants as ending
use Rattle.engine.specs.Limits.{Limits}
use Rattle.engine.specs.declared.regs.Regs.{Regs}
use Rattle.engine.specs.declared.regs.Turn.{Turn}
use Rattle.engine.proofs.Turning.{Leads, stops, values_are, reads_below}
use Rattle.engine.proofs.Areas.{locals_take}
use Rattle.engine.proofs.Moving.{stacked}
use Rattle.engine.proofs.Laying.{take_sets, drop_sets, set_sets}
use Rattle.engine.proofs.Copying.{wire_fits}
use Rattle.engine.proofs.WordKinds.{not_so}
use Rattle.engine.proofs.Reading.{bears_one, spread_some}
use Rattle.engine.proofs.Outputs.{cleared, lead_wired, none_bits, bits_none}

-- ---- words on an empty wire

module _ {w : List ℕ} {o : ℕ} (f : WireFits w o) where
  pub wire_inside : 65 * o + 65 ≤ length w
  wire_inside = let l = f.long in let i = f.inside in omega arith

  module _ (e : get_or w (65 * o) 0 ≡ 0) where
    all_zeros : T (all (λ x. eqb x 0) (take 64 (drop (65 * o + 1) w)))
    unfolding wire_ok wire_count
    all_zeros =
        let c = get_or w (65 * o) 0 in
        let t : T (all (λ x. eqb x 0) (take (64 - c) (drop (65 * o + 1 + c) w))) =
        and_left (all (λ x. eqb x 0) (take (64 - c) (drop (65 * o + 1 + c) w))) _ (and_right (leb c 64) _ f.ok) in
        let z : 65 * o + 1 + 0 ≡ 65 * o + 1 = omega arith in
        subst (λ (i : ℕ). T (all (λ x. eqb x 0) (take 64 (drop i w)))) z
        (subst (λ (k : ℕ). T (all (λ x. eqb x 0) (take (64 - k) (drop (65 * o + 1 + k) w)))) e t)

    zero_at : (m : ℕ) → m < 64 → get_or w (65 * o + 1 + m) 0 ≡ 0
    zero_at m h =
        let i = wire_inside in
        let d = length-drop (65 * o + 1) w in
        let l : length (take 64 (drop (65 * o + 1) w)) ≡ 64 = length-take-le 64 (drop (65 * o + 1) w) (omega arith) in
        sym (get_or-take 64 (drop (65 * o + 1) w) m 0 h ∙ get_or-drop (65 * o + 1) w m 0)
        ∙ eqb→eq (get_or (take 64 (drop (65 * o + 1) w)) m 0) 0
        (all_at (λ x. eqb x 0) (take 64 (drop (65 * o + 1) w)) 0 all_zeros m (rw l h))

    zeros_after : (n : ℕ) → n ≤ 64 → take (64 - n) (drop (65 * o + 1 + n) w) ≡ replicate (64 - n) 0
    zeros_after n h =
        let i = wire_inside in
        let d = length-drop (65 * o + 1 + n) w in
        let l : length (take (64 - n) (drop (65 * o + 1 + n) w)) ≡ 64 - n =
        length-take-le (64 - n) (drop (65 * o + 1 + n) w) (omega arith) in
        let k : length (replicate {A = ℕ} (64 - n) 0) ≡ 64 - n = length-replicate (64 - n) 0 in
        ext_get_or 0 (take (64 - n) (drop (65 * o + 1 + n) w)) (replicate (64 - n) 0) (l ∙ sym k)
        (λ m q.
        let a : m < 64 - n = rw l at q in
        let s : 65 * o + 1 + n + m ≡ 65 * o + 1 + (n + m) = omega arith in
        get_or-take (64 - n) (drop (65 * o + 1 + n) w) m 0 a
        ∙ get_or-drop (65 * o + 1 + n) w m 0
        ∙ ap (λ (j : ℕ). get_or w j 0) s
        ∙ zero_at (n + m) (omega arith)
        ∙ sym (get_or-replicate (64 - n) m 0 0 a))

    rest_of : (n : ℕ) → n ≤ 64 → drop (65 * o + suc n) w ≡ replicate (64 - n) 0 ++ drop (65 * o + 65) w
    rest_of n h =
        let s : 65 * o + suc n ≡ 65 * o + 1 + n = omega arith in
        let t : 65 * o + 1 + n + (64 - n) ≡ 65 * o + 65 = omega arith in
        ap (λ (i : ℕ). drop i w) s
        ∙ sym (take-append-drop (64 - n) (drop (65 * o + 1 + n) w))
        ∙ ap (λ (l : List ℕ). l ++ drop (64 - n) (drop (65 * o + 1 + n) w)) (zeros_after n h)
        ∙ ap (λ (l : List ℕ). replicate (64 - n) 0 ++ l)
        (drop-drop (64 - n) (65 * o + 1 + n) w ∙ ap (λ (i : ℕ). drop i w) t)

    -- the words, and then their count: the rest are zeros already
    wire_written : (ws : List ℕ) → length ws ≤ 64
        → set (sets w (65 * o + 1) ws) (65 * o) (length ws) ≡ set_wire w o ws
    unfolding set_wire
    wire_written ws h =
        let i = wire_inside in
        let one : set (sets w (65 * o + 1) ws) (65 * o) (length ws) ≡ sets w (65 * o) (length ws ∷ ws) =
        rw add-one (set_sets w (suc (65 * o)) (65 * o) (length ws) ws (omega arith)) in
        one
        ∙ sets-eq (length ws ∷ ws) w (65 * o) (omega arith)
        ∙ ap (λ (l : List ℕ). take (65 * o) w ++ (length ws ∷ ws) ++ l) (rest_of (length ws) h)
        ∙ simp append_assoc

    -- they are taken back
    pub wire_back : {w' : List ℕ} (ws : List ℕ) → length ws ≤ 64 → w' ≡ sets w (65 * o + 1) ws
        → paste w' (65 * o) (replicate 65 0) 65 ≡ w
    wire_back {w'} ws h s =
        let a : take (65 * o) w' ≡ take (65 * o) w = rw s (take_sets (65 * o) w (65 * o + 1) ws (omega arith)) in
        let b : drop (65 * o + 65) w' ≡ drop (65 * o + 65) w =
        rw s (drop_sets (65 * o + 65) w (65 * o + 1) ws (omega arith)) in
        ap (λ (l : List ℕ). l ++ replicate 65 0 ++ drop (65 * o + 65) w') a
        ∙ ap (λ (l : List ℕ). take (65 * o) w ++ replicate 65 0 ++ l) b
        ∙ cleared w o
        ∙ sym (wire_written [] (omega arith))
        ∙ ap (λ (x : ℕ). set w (65 * o) x) (sym e)
        ∙ set-get_or w (65 * o) 0

-- ---- the word on top

pub small_top : {ws : List Word} → Smalls ws → Small (below ws 0)
unfolding below
small_top {ws} sw = sw.each (length ws - (0 + 1))

module _ {r : Regs} {st he : List ℕ} {ws hs : List Word} (h : Holds r st he ws hs) (small : Smalls hs) where
  -- what holds of the state that the registers and buffers bear
  top_held : Smalls ws → (r.lp < r.sp → T (is_value (below ws 0)) → Held hs (below ws 0)) → TopHeld r st he
  top_held sw held =
      record {
        words = hs;
        bears = h.heap;
        smalls = small;
        long = sym h.hp;
        held = λ w l e s t.
            let b : get_or st (r.sp - 1) 0 ≡ bits (below ws 0) = reads_below h 0 (get_or st (r.sp - 1) 0) (omega arith) refl in
            let z : below ws 0 ≡ w = sym (raw_bits (below ws 0) (small_top sw)) ∙ ap raw (sym b ∙ e) ∙ raw_bits w s in
            subst (λ (u : Word). Held hs u) z (held l (rw z t));
      }

  -- it is offered as the machine's own,
  abbrev pub own_offered : Smalls ws → TopHeld r st he → r.lp < r.sp → Offered he (get_or st (r.sp - 1) 0)
  own_offered sw t l =
      let e : get_or st (r.sp - 1) 0 ≡ bits (below ws 0) = reads_below h 0 (get_or st (r.sp - 1) 0) (omega arith) refl in
      let u : t.words ≡ hs = bears_one t.bears h.heap t.smalls small (t.long ∙ h.hp) in
      record {
        words = hs;
        word = below ws 0;
        bears = h.heap;
        smalls = small;
        small = small_top sw;
        is = e;
        held = λ v. subst (λ (x : List Word). Held x (below ws 0)) u (t.held (below ws 0) l e (small_top sw) v);
      }

-- or as its 32 bits
pub top_offered : {r : Regs} {st he : List ℕ} → TopHeld r st he → r.lp < r.sp → get_or st (r.sp - 1) 0 < 2 ^ 32
    → Offered he (get_or st (r.sp - 1) 0)
top_offered {r} {st} {he} t l m =
    let x = get_or st (r.sp - 1) 0 in
    let s : Small (raw x) = small_raw x m in
    record {
      words = t.words;
      word = raw x;
      bears = t.bears;
      smalls = t.smalls;
      small = s;
      is = sym (bits_raw x);
      held = t.held (raw x) l (sym (bits_raw x)) s;
    }

-- a value that is offered can be read
abbrev pub offered_reads : {he : List ℕ} {x : ℕ} (k : Offered he x) → is_value k.word ≡ true → Readable he x
offered_reads k v =
    record {
      words = k.words;
      word = k.word;
      bears = k.bears;
      smalls = k.smalls;
      small = k.small;
      held = k.held (of_true v);
      is = k.is;
    }

-- ---- the room for it

module _ {he : List ℕ} {x : ℕ} (k : Offered he x) (c : ℕ) where
  abbrev Is : Result ℕ Ending → Type 0
  Is t = t ≡ room_of k.words k.word c

  pub room_other : is_value k.word ≡ false → Is (Err (ending.Fault 2))
  unfolding room_of
  room_other v = sym (pick_false (is_value k.word) _ _ (not_so v))

  module _ (v : is_value k.word ≡ true) where
    pub room_none : x ≡ 2 ^ 29 → Is (Ok 0)
    unfolding room_of
    room_none e =
        sym
        (pick_true (is_value k.word) _ _ (of_true v)
        ∙ pick_true (is_none k.word) _ _ (none_bits k.word k.small (sym k.is ∙ e)))

    module _ (d : x ≡ 2 ^ 29 → ⊥) where
      some : (t : Result ℕ Ending) → pick (is_value k.word) (pick (is_none k.word) (Ok 0) t) (Err (ending.Fault 2)) ≡ t
      some t =
          pick_true (is_value k.word) _ _ (of_true v)
          ∙ pick_false (is_none k.word) _ _ (λ n. d (k.is ∙ bits_none k.word n))

      pub room_full : (c ≡ 0 → ⊥) → Is (Err (ending.Fault 5))
      unfolding room_of
      room_full z = sym (some _ ∙ pick_false (eqb c 0) _ _ (λ t. z (eqb→eq c 0 t)))

      module _ (z : c ≡ 0) where
        pub room_over : 64 < length (spread k.words k.word) → Is (Err (ending.Fault 6))
        unfolding room_of
        room_over l =
            sym
            (some _
            ∙ pick_true (eqb c 0) _ _ (eqb_of c 0 z)
            ∙ pick_false (leb (length (spread k.words k.word)) 64) _ _
            (λ t. let m = leb→le (length (spread k.words k.word)) 64 t in omega arith))

        pub room_fits : {n : ℕ} → n ≡ length (spread k.words k.word) → n ≤ 64 → Is (Ok n)
        unfolding room_of
        room_fits {n} e l =
            sym
            (some _
            ∙ pick_true (eqb c 0) _ _ (eqb_of c 0 z)
            ∙ pick_true (leb (length (spread k.words k.word)) 64) _ _
            (le→leb (length (spread k.words k.word)) 64 (omega arith))
            ∙ ap (λ (m : ℕ). Ok m) (sym e))

-- ---- what there is room for

-- room_of, of its four tests
abbrev rooms : Bool → Bool → Bool → Bool → ℕ → Result ℕ Ending
rooms a b d g n = unless a 2 (pick b (Ok 0) (unless d 5 (unless g 6 (Ok n))))

-- a deed, by the room that there is
abbrev Does : (ℕ → Deed) → Result ℕ Ending → Deed → Type 0
Does f (Ok n) d = d ≡ f n
Does f (Err e) d = (k : ℕ) × (e ≡ ending.Fault k) × (d ≡ ends (fault k))

-- the same tests are Write's
tests_as : (a b d g : Bool) (n : ℕ) → 1 ≤ n → (f : List ℕ → Deed) (w w' : List ℕ)
    → Does (λ m. f (pick (eqb m 0) w w')) (rooms a b d g n) (need a 2 (pick b (f w) (need d 5 (need g 6 (f w')))))
unfolding need pick
tests_as false b d g n l f w w' = (2, refl, refl)
tests_as true true d g n l f w w' = refl
tests_as true false false g n l f w w' = (5, refl, refl)
tests_as true false true false n l f w w' = (6, refl, refl)
tests_as true false true true n l f w w' =
    ap f (sym (pick_false (eqb n 0) w w' (λ t. let e : n ≡ 0 = eqb→eq n 0 t in omega arith)))

record Passed (d g : Bool) (m n : ℕ) : Type 0 where
  empty : T d
  few : T g
  long : m ≡ n

tests_pass : (a b d g : Bool) (n : ℕ) {m : ℕ} → rooms a b d g n ≡ Ok m → (m ≡ 0 → ⊥) → Passed d g m n
unfolding pick
tests_pass false b d g n e k = let z : ◌≡◌ {A = ℕ} 0 1 = cc in absurd (let w : ⊥ = omega (arith, z) in w)
tests_pass true true d g n {m} e k = let z : m ≡ 0 = cc in absurd (k z)
tests_pass true false false g n e k = let z : ◌≡◌ {A = ℕ} 0 1 = cc in absurd (let w : ⊥ = omega (arith, z) in w)
tests_pass true false true false n e k = let z : ◌≡◌ {A = ℕ} 0 1 = cc in absurd (let w : ⊥ = omega (arith, z) in w)
tests_pass true false true true n {m} e k = let z : m ≡ n = cc in record { empty = tt; few = tt; long = z }

-- words are written only to an empty wire
pub record Roomy (hs : List Word) (v : Word) (c n : ℕ) : Type 0 where
  pub empty : c ≡ 0
  pub few : length (spread hs v) ≤ 64
  pub long : n ≡ length (spread hs v)

pub roomy : {hs : List Word} {v : Word} {c n : ℕ} {t : Result ℕ Ending} → t ≡ room_of hs v c → t ≡ Ok n → (n ≡ 0 → ⊥)
    → Roomy hs v c n
unfolding room_of
roomy {hs} {v} {c} {n} e o k =
    let m = length (spread hs v) in
    let p : Passed (eqb c 0) (leb m 64) n m = tests_pass (is_value v) (is_none v) (eqb c 0) (leb m 64) m (sym e ∙ o) k in
    record { empty = eqb→eq c 0 p.empty; few = leb→le m 64 p.few; long = p.long }

-- ---- what is on the wires after

-- what was there if n is 0, else w'
pub put_none : {n : ℕ} (w w' : List ℕ) → n ≡ 0 → pick (eqb n 0) w w' ≡ w
put_none {n} w w' z = pick_true (eqb n 0) w w' (eqb_of n 0 z)

put_some : {n : ℕ} (w w' : List ℕ) → (n ≡ 0 → ⊥) → pick (eqb n 0) w w' ≡ w'
put_some {n} w w' z = pick_false (eqb n 0) w w' (λ t. z (eqb→eq n 0 t))

-- the words are spread out on the wire at the index `at`
module _ (at : ℕ) {ws w w' : List ℕ} (o : Option ℕ) (s : Spread ws (at + 1) (at + 65) w (option_map (λ n. at + 1 + n) o) w') where
  pub spread_few : length s.written ≤ 64
  spread_few = omega (arith, s.inside)

  pub spread_over : o ≡ None → 64 < length ws
  spread_over e = let h : at + 65 < at + 1 + length ws = rw e at s.next_is in omega arith

  module _ {n : ℕ} (e : o ≡ Some n) where
    spread_next : (at + 1 + n ≡ at + 1 + length ws) × (at + 1 + n ≤ at + 65)
    spread_next = rw e at s.next_is

    pub spread_long : n ≡ length ws
    spread_long = omega (arith, spread_next.0)

    pub spread_fits : n ≤ 64
    spread_fits = omega (arith, spread_next.1)

    pub spread_put : 1 ≤ length ws → w' ≡ pick (eqb n 0) w (sets w (at + 1) ws)
    spread_put l =
        let i = spread_next in
        s.wires_is
        ∙ ap (λ (x : List ℕ). sets w (at + 1) x) (s.whole (omega (arith, i.0, i.1)))
        ∙ sym (put_some w (sets w (at + 1) ws) (λ (z : n ≡ 0). omega (arith, i.0)))

-- the wire o with the words ws, or what was there if n is 0
abbrev put : List ℕ → ℕ → ℕ → List ℕ → List ℕ
put w o n ws = pick (eqb n 0) w (set_wire w o ws)

-- their count comes to them, or they are taken back
module _ {w w' : List ℕ} {o n : ℕ} {hs : List Word} {v : Word} (f : WireFits w o) (y : Roomy hs v (get_or w (65 * o) 0) n)
    (z : n ≡ 0 → ⊥) (s : w' ≡ pick (eqb n 0) w (sets w (65 * o + 1) (spread hs v))) where
  words_on : w' ≡ sets w (65 * o + 1) (spread hs v)
  words_on = s ∙ put_some w (sets w (65 * o + 1) (spread hs v)) z

  pub room_taken : set w' (65 * o) n ≡ put w o n (spread hs v)
  room_taken =
      rw (words_on, y.long) (wire_written f y.empty (spread hs v) y.few)
      ∙ sym (put_some w (set_wire w o (spread hs v)) z)

  pub room_back : paste w' (65 * o) (replicate 65 0) 65 ≡ w
  room_back = wire_back f y.empty (spread hs v) y.few words_on

-- ---- what a write leads to

-- the wires are as they were
pub still : {lim : Limits} {r : Regs} {b : Buffers} {o : Act State End} {q : Turn} {st he w w' or : List ℕ} → w' ≡ w
    → Turned lim r b o q (buffers st he w or) → Turned lim r b o q (buffers st he w' or)
still e t = rw e t

module _ {r : Regs} (f : Fit r) {st he : List ℕ} {ws hs : List Word} (h : Holds r st he ws hs)
    (wi or : List ℕ) where
  abbrev s : State
  s = core r ws hs wi or false

  less : r.lp < r.sp → r.sp - 1 ≡ length (without 1 ws)
  unfolding without
  less l = ap (λ (n : ℕ). n - 1) h.sp ∙ sym (length-take-le (length ws - 1) ws (omega arith))

  same_lp : r.lp < r.sp → r.lp ≡ r.fp + locals r.fp (without 1 ws)
  unfolding without
  same_lp l =
      h.lp
      ∙ ap (λ (n : ℕ). r.fp + n) (sym (locals_take r.fp (length ws - 1) ws (omega (arith, h.sp, f.fp))))

  module _ (P : Program) (a : ℕ) where
    pub write_few : (cost : ℕ) {b : Buffers} {q : Turn} {lim : Limits} → r.sp ≤ r.lp → q ≡ halt r (ending.Fault 1)
        → Turned lim r b (priced cost (Write P a) s) q b
    unfolding Write
    write_few cost {b} {q} k e =
        stops cost _ r b s (fault 1)
        (need_no (leb 1 (values s)) 1 _
        (λ t. let v : 1 ≤ r.sp - r.lp = rw (values_are h wi or false) at (leb→le 1 (values s) t) in omega arith))
        e

    module _ (l : r.lp < r.sp) where
      enough : (d : Deed) → need (leb 1 (values s)) 1 d ≡ d
      enough d = need_yes (leb 1 (values s)) 1 d (le→leb 1 (values s) (rw (values_are h wi or false) (omega arith)))

      module _ (inputs : ℕ) (p : P.inputs ≡ inputs) {t : Result ℕ Ending}
          (e : t ≡ room_of hs (below ws 0) (get_or wi (65 * (inputs + a)) 0)) where
        abbrev leaves : List ℕ → Deed
        leaves w = rewires s (without 1 ws) w

        write_does : Does (λ n. leaves (put wi (inputs + a) n (spread hs (below ws 0)))) t (Write P a s)
        unfolding Write room_of is_empty wire_count output_at
        write_does =
            let v = below ws 0 in
            let same : Write P a s
            ≡ need (is_value v) 2
            (pick (is_none v) (leaves wi)
            (need (eqb (get_or wi (65 * (inputs + a)) 0) 0) 5
            (need (leb (length (spread hs v)) 64) 6 (leaves (set_wire wi (inputs + a) (spread hs v)))))) =
            enough _
            ∙ ap (λ (i : ℕ). need (is_value v) 2 (pick (is_none v) (leaves wi) (need (eqb (get_or wi (65 * (i + a)) 0) 0) 5
            (need (leb (length (spread hs v)) 64) 6 (leaves (set_wire wi (i + a) (spread hs v))))))) p in
            rw (e, same)
            (tests_as (is_value v) (is_none v) (eqb (get_or wi (65 * (inputs + a)) 0) 0) (leb (length (spread hs v)) 64)
            (length (spread hs v)) (spread_some hs v) leaves wi (set_wire wi (inputs + a) (spread hs v)))

        pub write_stops : (cost : ℕ) {x : Ending} {b : Buffers} {q : Turn} {lim : Limits} → t ≡ Err x → q ≡ halt r x
            → Turned lim r b (priced cost (Write P a) s) q b
        write_stops cost {x} {b} {q} z g =
            let d : (k : ℕ) × (x ≡ ending.Fault k) × (Write P a s ≡ ends (fault k)) = rw z at write_does in
            stops cost _ r b s (fault d.0) d.2 (g ∙ ap (halt r) d.1)

        pub write_leads : (cost : ℕ) {n : ℕ} → t ≡ Ok n
            → Leads cost (priced cost (Write P a) s) (stacked r (r.sp - 1)) (without 1 ws) hs
            (put wi (inputs + a) n (spread hs (below ws 0))) or
        write_leads cost {n} z =
            let d : Write P a s ≡ leaves (put wi (inputs + a) n (spread hs (below ws 0))) = rw z at write_does in
            lead_wired cost s (stacked r (r.sp - 1)) d (less l) h.hp (same_lp l)

-- ---- what every state that is reached gives

plain_held : {P : Program} {hs : List Word} {w : Word} → Plain P hs w → T (is_value w) → Held hs w
unfolding is_value is_ref is_none
plain_held (Plain.is_null e) t = absurd (rw e at t)
plain_held (Plain.is_ref p e o) t = ref_held p e o
plain_held (Plain.is_none e) t = none_held e
plain_held (Plain.is_ret p e h) t = absurd (rw e at t)
plain_held (Plain.is_rules a b e h k) t = absurd (rw e at t)
plain_held (Plain.is_static p e) t = absurd (rw e at t)

frames_plain : {P : Program} {hs ws : List Word} {fp : ℕ} → Frames P hs ws fp → (k : ℕ) → k + fp < length ws
    → Plain P hs (below ws k)
unfolding below
frames_plain (Frames.bottom ws fp e each) k h = each.each (length ws - (k + 1))
frames_plain {P} {hs} (Frames.frame ws fp lower upper prev n e b a c each d g) k h =
    let j = length ws - (k + 1) - fp in
    let l : length ws ≡ length lower + suc (length upper) =
    ap (λ (x : List Word). length x) e ∙ length-append lower (link prev n ∷ upper) in
    let i : length ws - (k + 1) ≡ length lower + suc j = omega arith in
    let z : get_or ws (length ws - (k + 1)) null ≡ get_or upper j null =
    ap (λ (x : ℕ). get_or ws x null) i
    ∙ ap (λ (x : List Word). get_or x (length lower + suc j) null) e
    ∙ get_or-append-add lower (link prev n ∷ upper) (suc j) null in
    subst (λ (w : Word). Plain P hs w) (sym z) (each.each j)

-- what Write asks of the word on top
pub top_sound : {P : Program} {r : Regs} {st he wi or : List ℕ} {ws hs : List Word} {d : Bool}
    → Sound P (core r ws hs wi or d) → Fit r → Holds r st he ws hs → Smalls ws → Smalls hs → TopHeld r st he
top_sound s f h m n =
    top_held h n m
    (λ l t. plain_held (frames_plain s.frames 0 (let a = f.fp in let b = h.sp in omega arith)) t)

-- what the others ask of a wire
pub wire_room : (P : Program) (w : List ℕ) (i : ℕ) → WiresFit P w → i < P.inputs + P.outputs → 65 * i + 65 ≤ length w
wire_room P w i f h = wire_inside (wire_fits P w i f h)
