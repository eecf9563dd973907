-- What the instructions that make objects, or take them apart, lead to.
use mathlib.Core.Path.{◌≡◌, refl, sym, ap, ◌∙◌, subst}
use mathlib.Core.Bool.{true, false, ◌||◌, true≢false}
use mathlib.Core.List.{List, [], ◌∷◌, ◌++◌, append_assoc}
use Prim.Native.Nat.{ℕ, zero, suc, ◌+◌, ◌-◌, ◌/◌, ◌%◌, ◌^◌, ◌≤◌, ◌<◌}
use native.Mathlib.Nat.{not-suc-le-zero}
use native.Mathlib.Decide.{dec_le}
use native.Mathlib.Omega.{arith}
use lib.Dec.{eqb, eqb→eq, leb, leb→le, le→leb}
use lib.ListN.{length, get_or, set, take, drop, length-append, length-set, length-drop, get_or-append}
use lib.Seq.{length-take-le, get_or-take, get_or-drop, get_or-append-add}
use Rattle.hume.specs.Words.{Word, null, ref, raw, bits, is_value, bool_header, int_header, float_header, tuple_header}
use Rattle.hume.specs.Numbers.{canonical}
use Rattle.hume.specs.Tests.{all}
use Rattle.hume.specs.State.{State, Deed, fault, values, locals, without, builds, below, downward, hp, number_at, second}
use Rattle.hume.specs.Machine.{charged}
use Rattle.hume.specs.Instructions.{MkBool, MkInt, MkFloat, mk_block, is_tuple_or_constr, Unpack}
use Rattle.laws.specs.Sizes.{Small}
use Rattle.laws.proofs.Deeds.{need_yes, need_no}
use Rattle.laws.proofs.Tests.{of_true, to_true, OneOf, one, other, or_cases}
use Rattle.laws.proofs.Words.{bits_raw}
use Rattle.engine.specs.Fits.{Fit}
use Rattle.engine.specs.Blocks.{making, Placed, from_top, from_place}
use Rattle.engine.specs.Turns.{Bears, Smalls, core, Holds, halt, Buffers, Turned, priced}
use Rattle.engine.specs.declared.Ending.TheVariants as ending
use Rattle.engine.specs.Limits.{Limits}
use Rattle.engine.specs.declared.regs.Regs.{Regs}
use Rattle.engine.specs.declared.regs.Turn.{Turn}
use Rattle.engine.proofs.After.{built}
use Rattle.engine.proofs.Turning.{Leads, stops, lead_grown, lead_still, values_are, reads_below}
use Rattle.engine.proofs.Areas.{bears_push, bears_without, locals_append}
use Rattle.engine.proofs.WordKinds.{payload_is, ref_yes, ref_no, number_is, second_is}
use Rattle.engine.proofs.Stores.{length_without, locals_without}
use Rattle.engine.proofs.Moving.{stacked}

-- ---- the instructions whose deed is `making` or `mk_block`

pub mk_bool_lem : (c : ℕ) (s : State) → MkBool c s ≡ making bool_header c s
unfolding MkBool
mk_bool_lem c s = refl

pub mk_int_lem : (c : ℕ) (s : State) → MkInt c s ≡ making int_header c s
unfolding MkInt
mk_int_lem c s = refl

pub mk_float_lem : (c : ℕ) (s : State) → MkFloat c s ≡ making float_header (canonical c) s
unfolding MkFloat
mk_float_lem c s = refl

-- ---- areas

-- two words more
pub bears_two : (l : List ℕ) (ws : List Word) (v w : Word) (i j m n : ℕ) → Bears l ws → i ≡ length ws → j ≡ i + 1
    → m ≡ bits v → n ≡ bits w → j < length l
    → Bears (set (set l i m) j n) (ws ++ v ∷ w ∷ [])
bears_two l ws v w i j m n b e f p q h =
    let z : length (ws ++ v ∷ []) ≡ length ws + 1 = length-append ws (v ∷ []) in
    subst (Bears (set (set l i m) j n)) (append_assoc ws (v ∷ []) (w ∷ []))
    (bears_push (set l i m) (ws ++ v ∷ []) w j n (bears_push l ws v i m b e p (omega arith)) (omega arith) q
    (rw length-set h))

-- the reference to a heap place, as its 32 bits
pub bits_ref : (p q : ℕ) → p ≡ q → 268435456 + p ≡ bits (ref q)
unfolding bits
bits_ref p q e = omega arith

-- the word a below the top is read, and it is small
pub bears_below : {l : List ℕ} {ws : List Word} (sp a : ℕ) → Bears l ws → sp ≡ length ws → a < sp
    → get_or l (sp - (a + 1)) 0 ≡ bits (below ws a)
unfolding below
bears_below {l} {ws} sp a b e k =
    b.get (sp - (a + 1)) (omega arith) ∙ ap (λ (x : ℕ). bits (get_or ws (x - (a + 1)) null)) e

pub small_below : {ws : List Word} (a : ℕ) → Smalls ws → Small (below ws a)
unfolding below
small_below {ws} a m = m.each (length ws - (a + 1))

-- ---- words that a loop moves

-- an area bears the words that were moved to its end
pub bears_placed : (l m : List ℕ) (ws vs : List Word) (at n : ℕ) (f : ℕ → ℕ) → Bears l ws → Placed l m at n f
    → at ≡ length ws → n ≡ length vs
    → at + n ≤ length l → ((i : ℕ) → i < n → f i ≡ bits (get_or vs i null)) → Bears m (ws ++ vs)
bears_placed l m ws vs at n f b p e q h g =
    let a = length-append ws vs in
    let z = p.long in
    record { room = omega arith; get = λ j k. by j (omega (arith, k)) (dec_le at j) }
  where
    by : (j : ℕ) → j < at + n → Dec (at ≤ j) → get_or m j 0 ≡ bits (get_or (ws ++ vs) j null)
    by j k (yes r) =
        let i : ℕ = j - at in
        let c : j ≡ at + i = omega arith in
        let d : j ≡ length ws + i = omega arith in
        ap (λ (x : ℕ). get_or m x 0) c
        ∙ p.put i (omega arith)
        ∙ g i (omega arith)
        ∙ ap bits (sym (get_or-append-add ws vs i null))
        ∙ ap (λ (x : ℕ). bits (get_or (ws ++ vs) x null)) (sym d)
    by j k (no r) =
        p.low j (omega (arith, r))
        ∙ b.get j (omega (arith, r))
        ∙ ap bits (sym (get_or-append ws vs null j (omega (arith, r))))

-- a Tuple's or a Constr's header is at least a Tuple's
pub block_least : (x : ℕ) → (eqb x tuple_header || eqb (x / 65536) 5) ≡ true → 262144 ≤ x
block_least x e = by (or_cases (eqb x tuple_header) (eqb (x / 65536) 5) (of_true e))
  where
    by : OneOf (eqb x tuple_header) (eqb (x / 65536) 5) → 262144 ≤ x
    by (one t) = let z = eqb→eq x tuple_header t in omega arith
    by (other t) = let z = eqb→eq (x / 65536) 5 t in omega arith

-- ---- the words from the top down

pub downward_length : (ws : List Word) (i n : ℕ) → length (downward ws i n) ≡ n
unfolding downward
downward_length ws i zero = refl
downward_length ws i (suc n) = ap suc (downward_length ws (i + 1) n)

downward_get : (ws : List Word) (i n j : ℕ) → j < n → get_or (downward ws i n) j null ≡ below ws (i + j)
unfolding downward
downward_get ws i zero j h = absurd (not-suc-le-zero h)
downward_get ws i (suc n) zero h = ap (below ws) (let z : i ≡ i + 0 = omega arith in z)
downward_get ws i (suc n) (suc j) h =
    downward_get ws (i + 1) n j (omega (arith, h)) ∙ ap (below ws) (let z : i + 1 + j ≡ i + suc j = omega arith in z)

downward_step : (ws : List Word) (i a : ℕ) → i < a
    → downward ws i (a - i) ≡ below ws i ∷ downward ws (i + 1) (a - (i + 1))
unfolding downward
downward_step ws i a h = ap (downward ws i) (let z : a - i ≡ suc (a - (i + 1)) = omega arith in z)

pub values_stop : (ws : List Word) (i a : ℕ) → i < a → is_value (below ws i) ≡ false
    → all is_value (downward ws i (a - i)) ≡ false
unfolding all
values_stop ws i a h e = ap (all is_value) (downward_step ws i a h) ∙ rw e

pub values_more : (ws : List Word) (i a : ℕ) → i < a → is_value (below ws i) ≡ true
    → all is_value (downward ws i (a - i)) ≡ all is_value (downward ws (i + 1) (a - (i + 1)))
unfolding all
values_more ws i a h e = ap (all is_value) (downward_step ws i a h) ∙ rw e

pub values_end : (ws : List Word) (i a : ℕ) → a ≤ i → all is_value (downward ws i (a - i)) ≡ true
unfolding all downward
values_end ws i a h = ap (λ (n : ℕ). all is_value (downward ws i n)) (let z : a - i ≡ 0 = omega arith in z)

-- ---- what building leads to

module _ {r : Regs} (f : Fit r) {st he : List ℕ} {ws hs : List Word} (h : Holds r st he ws hs)
    (wi or : List ℕ) where
  abbrev s : State
  s = core r ws hs wi or false

  -- an object of the words g, its reference on top of the lower n words
  pub builds_lead : (cost t k n m : ℕ) (lower g : List Word) {d : Deed} → d ≡ builds s k lower g → t ≡ cost + k
      → n ≡ length lower
      → r.fp ≤ n → locals r.fp lower ≡ locals r.fp ws → m ≡ r.hp + length g
      → Leads t (charged cost s d) (built r (n + 1) m) (lower ++ ref (hp s) ∷ []) (hs ++ g) wi or
  builds_lead cost t k n m lower g p e q low same z =
      lead_grown cost s (built r (n + 1) m) t k g p e
      (ap (λ (x : ℕ). x + 1) q ∙ sym (length-append lower (ref (hp s) ∷ [])))
      (z ∙ ap (λ (x : ℕ). x + length g) h.hp)
      (h.lp
      ∙ ap (λ (x : ℕ). r.fp + x)
      (sym (locals_append r.fp lower (ref (hp s) ∷ []) (subst (λ (x : ℕ). r.fp ≤ x) q low) ∙ same)))

  pub without_sp : (a : ℕ) → r.sp - a ≡ length (without a ws)
  without_sp a = ap (λ (n : ℕ). n - a) h.sp ∙ sym (length_without a ws)

  pub block_few : (cost x a : ℕ) {b : Buffers} {q : Turn} {lim : Limits} → r.sp - r.lp < a → q ≡ halt r (ending.Fault 1)
      → Turned lim r b (priced cost (mk_block x a) s) q b
  unfolding mk_block
  block_few cost x a {b} {q} k e =
      stops cost _ r b s (fault 1)
      (need_no (leb a (values s)) 1 _
      (λ t. let v : a ≤ r.sp - r.lp = rw (values_are h wi or false) at (leb→le a (values s) t) in omega arith))
      e

  pub block_wrong : (cost x a : ℕ) {b : Buffers} {q : Turn} {lim : Limits} → a ≤ r.sp - r.lp → all is_value (downward ws 0 a) ≡ false
      → q ≡ halt r (ending.Fault 2) → Turned lim r b (priced cost (mk_block x a) s) q b
  unfolding mk_block
  block_wrong cost x a {b} {q} k v e =
      stops cost _ r b s (fault 2)
      (need_yes (leb a (values s)) 1 _ (le→leb a (values s) (rw (values_are h wi or false) k))
      ∙ need_no (all is_value (downward ws 0 a)) 2 _ (λ t. true≢false (sym (to_true t) ∙ v)))
      e

  pub block_leads : (cost x a : ℕ) → a ≤ r.sp - r.lp → all is_value (downward ws 0 a) ≡ true
      → Leads cost (priced cost (mk_block x a) s) (built r (r.sp - a + 1) (r.hp + 2 + a)) (without a ws ++ ref (hp s) ∷ [])
      (hs ++ raw x ∷ raw a ∷ downward ws 0 a) wi or
  unfolding mk_block
  block_leads cost x a k v =
      builds_lead cost cost 0 (r.sp - a) (r.hp + 2 + a) (without a ws) (raw x ∷ raw a ∷ downward ws 0 a)
      (need_yes (leb a (values s)) 1 _ (le→leb a (values s) (rw (values_are h wi or false) k))
      ∙ need_yes (all is_value (downward ws 0 a)) 2 _ (of_true v))
      (omega arith) (without_sp a) (omega (arith, f.fp, f.lp)) (locals_without r.fp a ws (omega (arith, h.sp, f.fp, f.lp)))
      (let z = downward_length ws 0 a in omega arith)

  -- the heap bears the object whose fields the loop moved
  pub bears_block : (x a i j n : ℕ) {m : List ℕ} → a ≤ r.sp
      → Placed (set (set he i x) j n) m (r.hp + 2) a (from_top st r.sp) → i ≡ r.hp → j ≡ i + 1 → n ≡ a
      → r.hp + 2 + a ≤ length he → Bears m (hs ++ raw x ∷ raw a ∷ downward ws 0 a)
  bears_block x a i j n {m} k p e q d room =
      let z = length-append hs (raw x ∷ raw a ∷ []) in
      let y = h.hp in
      subst (Bears m) (append_assoc hs (raw x ∷ raw a ∷ []) (downward ws 0 a))
      (bears_placed (set (set he i x) j n) m (hs ++ raw x ∷ raw a ∷ []) (downward ws 0 a) (r.hp + 2) a (from_top st r.sp)
      (bears_two he hs (raw x) (raw a) i j x n h.heap (e ∙ h.hp) q (sym (bits_raw x)) (d ∙ sym (bits_raw a)) (omega arith))
      p (omega arith) (sym (downward_length ws 0 a))
      (rw (length-set, length-set) room)
      (λ g l. reads_below h g _ (omega arith) refl ∙ ap bits (sym (downward_get ws 0 a g l ∙ ap (below ws) (let w : 0 + g ≡ g = omega arith in w)))))

  -- ---- taking apart

  pub unpack_few : (cost : ℕ) {b : Buffers} {q : Turn} {lim : Limits} → r.sp ≤ r.lp → q ≡ halt r (ending.Fault 1)
      → Turned lim r b (priced cost Unpack s) q b
  unfolding Unpack
  unpack_few cost {b} {q} k e =
      stops cost _ r b s (fault 1)
      (need_no (leb 1 (values s)) 1 _
      (λ t. let v : 1 ≤ r.sp - r.lp = rw (values_are h wi or false) at (leb→le 1 (values s) t) in omega arith))
      e

  unpack_stops : (cost : ℕ) {b : Buffers} {q : Turn} {lim : Limits} → r.lp < r.sp → is_tuple_or_constr hs (below ws 0) ≡ false
      → q ≡ halt r (ending.Fault 2)
      → Turned lim r b (priced cost Unpack s) q b
  unfolding Unpack
  unpack_stops cost {b} {q} k v e =
      stops cost _ r b s (fault 2)
      (need_yes (leb 1 (values s)) 1 _ (le→leb 1 (values s) (rw (values_are h wi or false) (omega arith)))
      ∙ need_no (is_tuple_or_constr hs (below ws 0)) 2 _ (λ t. true≢false (sym (to_true t) ∙ v)))
      e

  module _ (w : ℕ) (e : w ≡ bits (below ws 0)) (k : Small (below ws 0)) (v : r.lp < r.sp) where
    pub unpack_no_ref : (cost : ℕ) {b : Buffers} {q : Turn} {lim : Limits} → (w / 2 ^ 28 ≡ 1 → ⊥) → q ≡ halt r (ending.Fault 2)
        → Turned lim r b (priced cost Unpack s) q b
    unfolding is_tuple_or_constr
    unpack_no_ref cost t d = unpack_stops cost v (rw (ref_no e k t)) d

    -- the header that is read of it
    module _ (t : w / 2 ^ 28 ≡ 1) (x : ℕ) (z : x ≡ get_or he (w % 2 ^ 28) 0) (l : w % 2 ^ 28 + 2 ≤ r.hp) where
      header_is : number_at hs (below ws 0).payload 0 ≡ x
      header_is =
          number_is e k 0 h.heap (omega (arith, h.hp))
          ∙ ap (λ (i : ℕ). get_or he i 0) (let y : w % 2 ^ 28 + 0 ≡ w % 2 ^ 28 = omega arith in y)
          ∙ sym z

      kind_is : is_tuple_or_constr hs (below ws 0) ≡ (eqb x tuple_header || eqb (x / 65536) 5)
      unfolding is_tuple_or_constr
      kind_is = rw (ref_yes e k t, header_is)

      pub unpack_wrong : (cost : ℕ) {b : Buffers} {q : Turn} {lim : Limits} → (eqb x tuple_header || eqb (x / 65536) 5) ≡ false
          → q ≡ halt r (ending.Fault 2) → Turned lim r b (priced cost Unpack s) q b
      unpack_wrong cost y d = unpack_stops cost v (kind_is ∙ y) d

      -- and its size
      module _ (n : ℕ) (m : n ≡ get_or he (w % 2 ^ 28 + 1) 0) (room : w % 2 ^ 28 + 2 + n ≤ r.hp) where
        size_is : second hs (below ws 0) ≡ n
        size_is = second_is e k h.heap (omega (arith, h.hp)) ∙ sym m

        abbrev fields : List Word
        fields = take (second hs (below ws 0)) (drop ((below ws 0).payload + 2) hs)

        fields_are : fields ≡ take n (drop (w % 2 ^ 28 + 2) hs)
        fields_are = rw (size_is, ← payload_is e k)

        fields_length : n ≡ length fields
        fields_length =
            let y = length-drop (w % 2 ^ 28 + 2) hs in
            sym (ap length fields_are ∙ length-take-le n (drop (w % 2 ^ 28 + 2) hs) (omega (arith, h.hp)))

        pub unpack_leads : (cost : ℕ) → (eqb x tuple_header || eqb (x / 65536) 5) ≡ true
            → Leads cost (priced cost Unpack s) (stacked r (r.sp - 1 + n)) (without 1 ws ++ fields) hs wi or
        unfolding Unpack
        unpack_leads cost y =
            lead_still cost s (stacked r (r.sp - 1 + n))
            (need_yes (leb 1 (values s)) 1 _ (le→leb 1 (values s) (rw (values_are h wi or false) (omega arith)))
            ∙ need_yes (is_tuple_or_constr hs (below ws 0)) 2 _ (of_true (kind_is ∙ y)))
            (let a = without_sp 1 in
            let b = length-append (without 1 ws) fields in
            let d = fields_length in
            omega arith)
            h.hp
            (h.lp
            ∙ ap (λ (a : ℕ). r.fp + a)
            (sym (locals_append r.fp (without 1 ws) fields (let a = without_sp 1 in omega (arith, f.fp, f.lp))
            ∙ locals_without r.fp 1 ws (omega (arith, h.sp, f.fp, f.lp)))))

        pub bears_unpacked : {g : List ℕ} → Placed st g (r.sp - 1) n (from_place he (w % 2 ^ 28 + 2))
            → r.sp - 1 + n ≤ length st
            → Bears g (without 1 ws ++ fields)
        bears_unpacked {g} p o =
            bears_placed st g (without 1 ws) fields (r.sp - 1) n (from_place he (w % 2 ^ 28 + 2))
            (bears_without st ws 1 h.stack) p (without_sp 1) fields_length o
            (λ i j.
            h.heap.get (w % 2 ^ 28 + 2 + i) (omega (arith, h.hp))
            ∙ ap bits
            (sym (get_or-drop (w % 2 ^ 28 + 2) hs i null)
            ∙ sym (get_or-take n (drop (w % 2 ^ 28 + 2) hs) i null j)
            ∙ ap (λ (a : List Word). get_or a i null) (sym fields_are)))
