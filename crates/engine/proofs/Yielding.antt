-- What the primitives yield, and what applying one, or raising, leads to.
use mathlib.Core.Path.{◌≡◌, refl, sym, ap, ◌∙◌, subst}
use mathlib.Core.Bool.{Bool, true, false, ◌&&◌, true≢false}
use mathlib.Core.List.{List, [], ◌∷◌, ◌++◌, append_assoc}
use mathlib.Core.Option.{Option, none, some}
use Rattle.std.specs.Prelude.{Some, Ok, Err}
use Prim.Native.Nat.{ℕ, zero, suc, ◌+◌, ◌-◌, ◌/◌, ◌%◌, ◌^◌, ◌≤◌, ◌<◌}
use native.Mathlib.Nat.{not-suc-le-zero}
use native.Mathlib.Decide.{ℕ_discrete}
use native.Mathlib.Omega.{arith}
use borrow.Author.Tests.{eq-eqb, ne_eqb}
use lib.Dec.{T, eqb, eqb→eq, leb, leb→le, le→leb}
use lib.ListN.{length, get_or, set, take, length-append, length-set, get_or-append, get_or-eq_default}
use lib.Seq.{get_or-append-add, length-take-le, take_all}
use Rattle.limits.specs.Machine.{ends, goes}
use Rattle.hume.specs.Tests.{pick, every}
use Rattle.hume.specs.Words.{Word, null, ref, link, raw, bits, is_value, bool_header, int_header, float_header, exn_header}
use Rattle.hume.specs.Image.{Program}
use Rattle.hume.specs.State.{State, Deed, fault, unhandled, leaving, values, locals, without, need, builds, below, raise}
use Rattle.hume.specs.Instructions.{yielded as resulted, operand, operand_ok, CallPrim1, CallPrim2, Raise}
use Rattle.hume.specs.Numbers.{to_int}
use Rattle.hume.specs.Primitives.{Yield, value, raises, Primitive, divided, converted, one_operand, two_operands, primitives, no_primitive, prim1, prim2}
use Rattle.laws.specs.Sizes.{Small}
use Rattle.laws.proofs.Deeds.{need_yes, need_no}
use Rattle.laws.proofs.Small.{raw_bits}
use Rattle.laws.proofs.Tests.{every_at, and_left, and_right, of_true, to_true, pick_true, pick_false}
use Rattle.laws.proofs.Words.{bits_raw}
use Rattle.engine.specs.Fits.{Fit}
use Rattle.engine.specs.Turns.{Bears, core, Holds, halt, Buffers, buffers, Turned, Meets, priced}
use Rattle.engine.specs.Blocks.{making}
use Rattle.engine.specs.Outcomes.{Outcome, valued, wrongly, raised, given, tried, kept, quotient, whole, cutting}
use Rattle.engine.specs.Outcomes.{operands, results, throws, troubled, dealt, Deals, Fair, cycle_table, Handled}
use Rattle.engine.specs.declared.Ending.TheVariants as ending
use Rattle.engine.specs.Limits.{Limits}
use Rattle.engine.specs.declared.regs.Regs.{Regs}
use Rattle.engine.specs.declared.regs.Turn.{Turn}
use Rattle.engine.specs.declared.prims.Cell.{Cell}
use Rattle.engine.specs.declared.prims.Trouble.{Trouble}
use Rattle.engine.specs.declared.image.Handler.{Handler}
use Rattle.engine.proofs.After.{after, built}
use Rattle.engine.proofs.Turning.{Leads, stops, turned_as, lead_grown, values_are}
use Rattle.engine.proofs.Areas.{bears_push, locals_take}
use Rattle.engine.proofs.Building.{bears_two, builds_lead}
use Rattle.engine.proofs.WordKinds.{cell_no, cell_is_lem, second_is}

-- ---- the table of cycles

-- The rule, at all entries by one test that is computed.
cycles_rule : (i : ℕ) → i < 25 → get_or cycle_table i 0 ≡ (get_or primitives i no_primitive).cycles
unfolding cycle_table every primitives one_operand two_operands
cycles_rule i h =
    eqb→eq (get_or cycle_table i 0) (get_or primitives i no_primitive).cycles
    (every_at 25 (λ k. eqb (get_or cycle_table k 0) (get_or primitives k no_primitive).cycles) tt i h)

module _ {l : List ℕ} (e : l ≡ cycle_table) where
  pub cycles_length : length l ≡ 25
  unfolding cycle_table
  cycles_length = ap length e

  pub cycles_one : (a : ℕ) → 1 ≤ a → a ≤ 3 → get_or l (a - 1) 0 ≡ (prim1 a).cycles
  unfolding prim1 one_operand primitives
  cycles_one a n m =
      ap (λ (t : List ℕ). get_or t (a - 1) 0) e
      ∙ cycles_rule (a - 1) (omega arith)
      ∙ ap (λ (p : Primitive). p.cycles) (get_or-append one_operand two_operands no_primitive (a - 1) (omega arith))

  pub cycles_two : (a : ℕ) → 1 ≤ a → a ≤ 22 → get_or l (a + 2) 0 ≡ (prim2 a).cycles
  unfolding prim2 one_operand primitives
  cycles_two a n m =
      let z : a + 2 ≡ 3 + (a - 1) = omega arith in
      ap (λ (t : List ℕ). get_or t (a + 2) 0) e
      ∙ cycles_rule (a + 2) (omega arith)
      ∙ ap (λ (i : ℕ). (get_or primitives i no_primitive).cycles) z
      ∙ ap (λ (p : Primitive). p.cycles) (get_or-append-add one_operand two_operands (a - 1) no_primitive)

-- ---- one primitive, by number

pub beyond_one : (a : ℕ) → 3 < a → prim1 a ≡ no_primitive
unfolding prim1 one_operand
beyond_one a h = get_or-eq_default one_operand no_primitive {n = a - 1} (omega arith)

pub beyond_two : (a : ℕ) → 22 < a → prim2 a ≡ no_primitive
unfolding prim2 two_operands
beyond_two a h = get_or-eq_default two_operands no_primitive {n = a - 1} (omega arith)

pub first_one : (a : ℕ) → a ≤ 1 → prim1 a ≡ prim1 1
unfolding prim1
first_one a h = ap (λ (i : ℕ). get_or one_operand i no_primitive) (let z : a - 1 ≡ 0 = omega arith in z)

pub first_two : (a : ℕ) → a ≤ 1 → prim2 a ≡ prim2 1
unfolding prim2
first_two a h = ap (λ (i : ℕ). get_or two_operands i no_primitive) (let z : a - 1 ≡ 0 = omega arith in z)

given_pick : (p : Primitive) (b : Bool) (u w : Yield) → given p (pick b u w) ≡ pick b (given p u) (given p w)
unfolding pick
given_pick p true u w = refl
given_pick p false u w = refl

module _ (p : ℕ → Primitive) (a h x y : ℕ) {q : Outcome} where
  -- a primitive that gives the value u
  pub arm : (k v u : ℕ) → p a ≡ p k → q ≡ kept h (p k).takes (p k).gives v → v ≡ u → (p k).yields x y ≡ value u
      → q ≡ tried (p a) (eqb h (p a).takes) x y
  unfolding tried kept
  arm k v u e d z w = rw (e, w, ← z) d

  -- one that divides
  pub arm_divided : (k v : ℕ) (f : ℕ → ℕ → ℕ) → p a ≡ p k → q ≡ quotient h y v → v ≡ f x y
      → p k ≡ record { cycles = (p k).cycles; takes = int_header; gives = int_header; yields = divided f }
      → q ≡ tried (p a) (eqb h (p a).takes) x y
  unfolding tried quotient divided
  arm_divided k v f e d z w =
      d
      ∙ ap (λ (n : ℕ). pick (eqb h int_header) (pick (eqb y 0) (raised 1) (valued int_header n)) wrongly) z
      ∙ sym
      (ap (λ (g : Primitive). tried g (eqb h g.takes) x y) (e ∙ w)
      ∙ ap (λ (g : Outcome). pick (eqb h int_header) g wrongly)
      (given_pick (record { cycles = (p k).cycles; takes = int_header; gives = int_header; yields = divided f }) (eqb y 0) (raises 1) (value (f x y))))

  -- none
  pub arm_none : p a ≡ no_primitive → q ≡ kept h bool_header bool_header 0 → q ≡ tried (p a) (eqb h (p a).takes) x y
  unfolding tried kept
  arm_none e d = rw e d

-- toInt.f
given_cut : (o : Option ℕ) → given (prim1 3) (converted o) ≡ whole o
unfolding prim1 one_operand converted
given_cut none = refl
given_cut (some n) = refl

pub arm_cut : (a h x : ℕ) {q : Outcome} (o : Option ℕ) → a ≡ 3 → q ≡ cutting h o → o ≡ to_int x
    → q ≡ tried (prim1 a) (eqb h (prim1 a).takes) x 0
unfolding tried cutting prim1 one_operand
arm_cut a h x {q} o e d z =
    d
    ∙ sym
    (ap (λ (i : ℕ). tried (prim1 i) (eqb h (prim1 i).takes) x 0) e
    ∙ ap (λ (g : Outcome). pick (eqb h float_header) g wrongly) (given_cut (to_int x) ∙ ap whole (sym z)))

-- two operands of different kinds, and of the same
pub unlike : (p : Primitive) (h g x y : ℕ) → (h ≡ g → ⊥)
    → wrongly ≡ tried p (eqb h p.takes && eqb g p.takes) x y
unfolding tried pick
unlike p h g x y n = by (ℕ_discrete h p.takes) (ℕ_discrete g p.takes)
  where
    by : Dec (h ≡ p.takes) → Dec (g ≡ p.takes) → wrongly ≡ tried p (eqb h p.takes && eqb g p.takes) x y
    by (no a) d = rw (ne_eqb h p.takes a)
    by (yes a) (no b) = rw (eq-eqb h p.takes a, ne_eqb g p.takes b)
    by (yes a) (yes b) = absurd (n (a ∙ sym b))

and_same : (b : Bool) → b ≡ (b && b)
and_same true = refl
and_same false = refl

pub alike : (p : Primitive) (h g x y : ℕ) {q : Outcome} → h ≡ g → q ≡ tried p (eqb h p.takes) x y
    → q ≡ tried p (eqb h p.takes && eqb g p.takes) x y
alike p h g x y e d =
    d
    ∙ ap (λ (b : Bool). tried p b x y)
    (and_same (eqb h p.takes) ∙ ap (λ (n : ℕ). eqb h p.takes && eqb n p.takes) e)

-- ---- the exceptions of the primitives have small numbers

pub record Tame (p : Primitive) : Type 0 where
  pub each : (x y e : ℕ) → p.yields x y ≡ raises e → e < 65536

tame_value : (p : Primitive) (f : ℕ → ℕ → ℕ) → ((x y : ℕ) → p.yields x y ≡ value (f x y)) → Tame p
tame_value p f g =
    record {
      each = λ x y e q.
          let k : value (f x y) ≡ raises e = sym (g x y) ∙ q in
          let z : ◌≡◌ {A = ℕ} 0 1 = cc in
          omega arith;
    }

tame_of : (u : Yield) (n e : ℕ) → u ≡ raises n → u ≡ raises e → n < 65536 → e < 65536
tame_of u n e p q l = let z : n ≡ e = cc in omega arith

tame_divided : (c : ℕ) (f : ℕ → ℕ → ℕ)
    → Tame (record { cycles = c; takes = int_header; gives = int_header; yields = divided f })
unfolding divided
tame_divided c f = record { each = λ x y e q. by x y e (eqb y 0) q }
  where
    by : (x y e : ℕ) (b : Bool) → pick b (raises 1) (value (f x y)) ≡ raises e → e < 65536
    by x y e true q = tame_of (pick true (raises 1) (value (f x y))) 1 e (pick_true true (raises 1) (value (f x y)) tt) q (omega arith)
    by x y e false q =
        let k : value (f x y) ≡ raises e = sym (pick_false false (raises 1) (value (f x y)) (λ t. t)) ∙ q in
        let z : ◌≡◌ {A = ℕ} 0 1 = cc in
        omega arith

tame_cut : (o : Option ℕ) (e : ℕ) → converted o ≡ raises e → e < 65536
unfolding converted
tame_cut none e q = tame_of (raises 2) 2 e refl q (omega arith)
tame_cut (some n) e q = let z : ◌≡◌ {A = ℕ} 0 1 = cc in omega arith

tame_none : Tame no_primitive
tame_none = tame_value no_primitive _ (λ x y. refl)

-- each of them
abbrev Tames : List Primitive → Type 0
Tames [] = Unit {0}
Tames (p ∷ ps) = Tame p × Tames ps

tames_at : (ps : List Primitive) → Tames ps → (i : ℕ) → Tame (get_or ps i no_primitive)
tames_at [] t i = tame_none
tames_at (p ∷ ps) t zero = t.0
tames_at (p ∷ ps) t (suc i) = tames_at ps t.1 i

tames_one : Tames one_operand
unfolding one_operand
tames_one = (
  tame_value _ _ (λ x y. refl),
  (
    tame_value _ _ (λ x y. refl),
    (
      record { each = λ x y e q. tame_cut (to_int x) e q },
      tt,
    ),
  ),
)

tames_two : Tames two_operands
unfolding two_operands
tames_two = (
  tame_value _ _ (λ x y. refl),
  (
    tame_value _ _ (λ x y. refl),
    (
      tame_value _ _ (λ x y. refl),
      (
        tame_value _ _ (λ x y. refl),
        (
          tame_value _ _ (λ x y. refl),
          (
            tame_value _ _ (λ x y. refl),
            (
              tame_value _ _ (λ x y. refl),
              (
                tame_value _ _ (λ x y. refl),
                (
                  tame_value _ _ (λ x y. refl),
                  (
                    tame_divided _ _,
                    (
                      tame_divided _ _,
                      (
                        tame_value _ _ (λ x y. refl),
                        (
                          tame_value _ _ (λ x y. refl),
                          (
                            tame_value _ _ (λ x y. refl),
                            (
                              tame_value _ _ (λ x y. refl),
                              (
                                tame_value _ _ (λ x y. refl),
                                (
                                  tame_value _ _ (λ x y. refl),
                                  (
                                    tame_value _ _ (λ x y. refl),
                                    (
                                      tame_value _ _ (λ x y. refl),
                                      (
                                        tame_value _ _ (λ x y. refl),
                                        (
                                          tame_value _ _ (λ x y. refl),
                                          (
                                            tame_value _ _ (λ x y. refl),
                                            tt,
                                          ),
                                        ),
                                      ),
                                    ),
                                  ),
                                ),
                              ),
                            ),
                          ),
                        ),
                      ),
                    ),
                  ),
                ),
              ),
            ),
          ),
        ),
      ),
    ),
  ),
)

pub tame_one : (a : ℕ) → Tame (prim1 a)
unfolding prim1
tame_one a = tames_at one_operand tames_one (a - 1)

pub tame_two : (a : ℕ) → Tame (prim2 a)
unfolding prim2
tame_two a = tames_at two_operands tames_two (a - 1)

-- ---- what an application comes to

pub fair_tried : (r : Regs) (p : Primitive) → Tame p → (ok : Bool) (x y n : ℕ) {o : Outcome} → o ≡ tried p ok x y
    → r.lp + n ≤ r.sp → Fair r n o
unfolding tried pick
fair_tried r p t ok x y n {o} e l = subst (Fair r n) (sym e) (by ok (p.yields x y) (t.each x y))
  where
    by : (b : Bool) (u : Yield) → ((m : ℕ) → u ≡ raises m → m < 65536) → Fair r n (pick b (given p u) wrongly)
    by false u k = tt
    by true (value v) k = l
    by true (raises m) k = k m refl

yield_deal : (P : Program) (s : State) (n low : ℕ) (p : Primitive) (u : Yield) → low ≡ length s.stack - n
    → resulted P s n p u ≡ dealt P p.cycles low (given p u) s
unfolding resulted without raw
yield_deal P s n low p (value x) e =
    ap (λ (i : ℕ). builds s p.cycles (take i s.stack) (raw p.gives ∷ raw x ∷ [])) (sym e)
yield_deal P s n low p (raises k) e = refl

prim_deal : (P : Program) (s : State) (n low : ℕ) (p : Primitive) (ok : Bool) (x y : ℕ) → low ≡ length s.stack - n
    → need ok 2 (resulted P s n p (p.yields x y)) ≡ dealt P p.cycles low (tried p ok x y) s
unfolding need tried pick
prim_deal P s n low p true x y e = yield_deal P s n low p (p.yields x y) e
prim_deal P s n low p false x y e = refl

module _ {r : Regs} {st he : List ℕ} {ws hs : List Word} (h : Holds r st he ws hs) (wi or : List ℕ) where
  abbrev s : State
  s = core r ws hs wi or false

  enough : (a : ℕ) → a ≤ r.sp - r.lp → T (leb a (values s))
  enough a k = le→leb a (values s) (rw (values_are h wi or false) k)

  few : (a : ℕ) → r.sp - r.lp < a → T (leb a (values s)) → ⊥
  few a k t = let v : a ≤ r.sp - r.lp = rw (values_are h wi or false) at (leb→le a (values s) t) in omega arith

  -- the operand i below the top, as it is read
  module _ (i w : ℕ) (e : w ≡ bits (below ws i)) (k : Small (below ws i)) (p : Primitive) where
    operand_no : (w / 2 ^ 28 ≡ 1 → ⊥) → operand_ok s p i ≡ false
    unfolding operand_ok
    operand_no t = cell_no e k hs p.takes t

    module _ (t : w / 2 ^ 28 ≡ 1) (l : w % 2 ^ 28 + 2 ≤ r.hp) where
      operand_ok_lem : (x : ℕ) → x ≡ get_or he (w % 2 ^ 28) 0 → operand_ok s p i ≡ eqb x p.takes
      unfolding operand_ok
      operand_ok_lem x z =
          cell_is_lem e k p.takes t h.heap (omega (arith, h.hp)) ∙ ap (λ (n : ℕ). eqb n p.takes) (sym z)

      operand_is : (x : ℕ) → x ≡ get_or he (w % 2 ^ 28 + 1) 0 → operand s i ≡ x
      unfolding operand
      operand_is x z = second_is e k h.heap (omega (arith, h.hp)) ∙ sym z

  module _ (P : Program) (a : ℕ) where
    pub one_few : r.sp ≤ r.lp → CallPrim1 P a s ≡ ends (fault 1)
    unfolding CallPrim1
    one_few k = need_no (leb 1 (values s)) 1 _ (few 1 (omega arith))

    module _ (w : ℕ) (e : w ≡ bits (below ws 0)) (k : Small (below ws 0)) where
      pub one_no_ref : r.lp < r.sp → (w / 2 ^ 28 ≡ 1 → ⊥) → CallPrim1 P a s ≡ ends (fault 2)
      unfolding CallPrim1
      one_no_ref v t =
          need_yes (leb 1 (values s)) 1 _ (enough 1 (omega arith))
          ∙ need_no (operand_ok s (prim1 a) 0) 2 _ (λ b. true≢false (sym (to_true b) ∙ operand_no 0 w e k (prim1 a) t))

      pub one_is : (x y : ℕ) → r.lp < r.sp → w / 2 ^ 28 ≡ 1 → w % 2 ^ 28 + 2 ≤ r.hp → x ≡ get_or he (w % 2 ^ 28) 0
          → y ≡ get_or he (w % 2 ^ 28 + 1) 0 → (o : Outcome) → o ≡ tried (prim1 a) (eqb x (prim1 a).takes) y 0
          → CallPrim1 P a s ≡ dealt P (prim1 a).cycles (r.sp - 1) o s
      unfolding CallPrim1
      one_is x y v t l p q o d =
          need_yes (leb 1 (values s)) 1 _ (enough 1 (omega arith))
          ∙ ap (λ (b : Bool). need b 2 (resulted P s 1 (prim1 a) ((prim1 a).yields (operand s 0) 0))) (operand_ok_lem 0 w e k (prim1 a) t l x p)
          ∙ ap (λ (n : ℕ). need (eqb x (prim1 a).takes) 2 (resulted P s 1 (prim1 a) ((prim1 a).yields n 0))) (operand_is 0 w e k (prim1 a) t l y q)
          ∙ prim_deal P s 1 (r.sp - 1) (prim1 a) (eqb x (prim1 a).takes) y 0 (ap (λ (n : ℕ). n - 1) h.sp)
          ∙ ap (λ (z : Outcome). dealt P (prim1 a).cycles (r.sp - 1) z s) (sym d)

    pub two_few : r.sp - r.lp < 2 → CallPrim2 P a s ≡ ends (fault 1)
    unfolding CallPrim2
    two_few k = need_no (leb 2 (values s)) 1 _ (few 2 k)

    module _ (w v : ℕ) (e : w ≡ bits (below ws 0)) (g : v ≡ bits (below ws 1)) (k : Small (below ws 0)) (j : Small (below ws 1)) (m : 2 ≤ r.sp - r.lp) where
      pub two_no_first : (w / 2 ^ 28 ≡ 1 → ⊥) → CallPrim2 P a s ≡ ends (fault 2)
      unfolding CallPrim2
      two_no_first t =
          need_yes (leb 2 (values s)) 1 _ (enough 2 m)
          ∙ need_no (operand_ok s (prim2 a) 0 && operand_ok s (prim2 a) 1) 2 _
          (λ b. true≢false (sym (to_true (and_left (operand_ok s (prim2 a) 0) (operand_ok s (prim2 a) 1) b)) ∙ operand_no 0 w e k (prim2 a) t))

      pub two_no_second : (v / 2 ^ 28 ≡ 1 → ⊥) → CallPrim2 P a s ≡ ends (fault 2)
      unfolding CallPrim2
      two_no_second t =
          need_yes (leb 2 (values s)) 1 _ (enough 2 m)
          ∙ need_no (operand_ok s (prim2 a) 0 && operand_ok s (prim2 a) 1) 2 _
          (λ b. true≢false (sym (to_true (and_right (operand_ok s (prim2 a) 0) _ b)) ∙ operand_no 1 v g j (prim2 a) t))

      pub two_is : (x0 y0 x1 y1 : ℕ) → w / 2 ^ 28 ≡ 1 → v / 2 ^ 28 ≡ 1 → w % 2 ^ 28 + 2 ≤ r.hp → v % 2 ^ 28 + 2 ≤ r.hp
          → x0 ≡ get_or he (w % 2 ^ 28) 0 → y0 ≡ get_or he (w % 2 ^ 28 + 1) 0 → x1 ≡ get_or he (v % 2 ^ 28) 0 → y1 ≡ get_or he (v % 2 ^ 28 + 1) 0
          → (o : Outcome) → o ≡ tried (prim2 a) (eqb x0 (prim2 a).takes && eqb x1 (prim2 a).takes) y0 y1
          → CallPrim2 P a s ≡ dealt P (prim2 a).cycles (r.sp - 2) o s
      unfolding CallPrim2
      two_is x0 y0 x1 y1 t u l n p0 q0 p1 q1 o d =
          need_yes (leb 2 (values s)) 1 _ (enough 2 m)
          ∙ ap (λ (b : Bool). need (b && operand_ok s (prim2 a) 1) 2 (resulted P s 2 (prim2 a) ((prim2 a).yields (operand s 0) (operand s 1))))
          (operand_ok_lem 0 w e k (prim2 a) t l x0 p0)
          ∙ ap (λ (b : Bool). need (eqb x0 (prim2 a).takes && b) 2 (resulted P s 2 (prim2 a) ((prim2 a).yields (operand s 0) (operand s 1))))
          (operand_ok_lem 1 v g j (prim2 a) u n x1 p1)
          ∙ ap (λ (z : ℕ). need (eqb x0 (prim2 a).takes && eqb x1 (prim2 a).takes) 2 (resulted P s 2 (prim2 a) ((prim2 a).yields z (operand s 1))))
          (operand_is 0 w e k (prim2 a) t l y0 q0)
          ∙ ap (λ (z : ℕ). need (eqb x0 (prim2 a).takes && eqb x1 (prim2 a).takes) 2 (resulted P s 2 (prim2 a) ((prim2 a).yields y0 z)))
          (operand_is 1 v g j (prim2 a) u n y1 q1)
          ∙ prim_deal P s 2 (r.sp - 2) (prim2 a) (eqb x0 (prim2 a).takes && eqb x1 (prim2 a).takes) y0 y1 (ap (λ (z : ℕ). z - 2) h.sp)
          ∙ ap (λ (z : Outcome). dealt P (prim2 a).cycles (r.sp - 2) z s) (sym d)

  module _ (P : Program) (b : ℕ) where
    pub raise_few : r.sp ≤ r.lp → Raise P b s ≡ ends (fault 1)
    unfolding Raise
    raise_few k = need_no (leb 1 (values s)) 1 _ (few 1 (omega arith))

    pub raise_wrong : r.lp < r.sp → is_value (below ws 0) ≡ false → Raise P b s ≡ ends (fault 2)
    unfolding Raise
    raise_wrong k v =
        need_yes (leb 1 (values s)) 1 _ (enough 1 (omega arith))
        ∙ need_no (is_value (below ws 0)) 2 _ (λ t. true≢false (sym (to_true t) ∙ v))

    pub raise_is : (w : ℕ) → r.lp < r.sp → is_value (below ws 0) ≡ true → w ≡ bits (below ws 0) → Small (below ws 0)
        → Raise P b s ≡ throws P 0 b w s
    unfolding Raise
    raise_is w k v e m =
        need_yes (leb 1 (values s)) 1 _ (enough 1 (omega arith))
        ∙ need_yes (is_value (below ws 0)) 2 _ (of_true v)
        ∙ ap (raise P s 0 b) (sym (ap raw e ∙ raw_bits (below ws 0) m))

-- the registers where a handler is entered
abbrev pub entered : Regs → ℕ → ℕ → Regs
entered r handler entry =
    after r entry 5 (r.hp + 3) 5 5 0 0 r.mp r.inp handler

-- "the stack becomes the exception, three nulls and a frame link with fp 0 and n 0"
abbrev pub thrown : ℕ → List Word
thrown p = ref p ∷ null ∷ null ∷ null ∷ link 0 0 ∷ []

pub bears_thrown : (l : List ℕ) (n p : ℕ) → n ≡ bits (ref p) → 5 ≤ length l
    → Bears (set (set (set (set (set l 0 n) 1 0) 2 0) 3 0) 4 1610612736) (thrown p)
unfolding bits
bears_thrown l n p e h =
    let b0 : Bears l [] = record { room = omega arith; get = λ i k. absurd (not-suc-le-zero k) } in
    let b1 : Bears (set l 0 n) (ref p ∷ []) = bears_push l [] (ref p) 0 n b0 refl e (omega arith) in
    let b2 : Bears (set (set l 0 n) 1 0) (ref p ∷ null ∷ []) = bears_push (set l 0 n) (ref p ∷ []) null 1 0 b1 refl refl (simp length-set (omega arith)) in
    let b3 : Bears (set (set (set l 0 n) 1 0) 2 0) (ref p ∷ null ∷ null ∷ []) =
    bears_push (set (set l 0 n) 1 0) (ref p ∷ null ∷ []) null 2 0 b2 refl refl (simp length-set (omega arith)) in
    let b4 : Bears (set (set (set (set l 0 n) 1 0) 2 0) 3 0) (ref p ∷ null ∷ null ∷ null ∷ []) =
    bears_push (set (set (set l 0 n) 1 0) 2 0) (ref p ∷ null ∷ null ∷ []) null 3 0 b3 refl refl (simp length-set (omega arith)) in
    bears_push (set (set (set (set l 0 n) 1 0) 2 0) 3 0) (ref p ∷ null ∷ null ∷ null ∷ []) (link 0 0) 4 1610612736 b4 refl refl (simp length-set (omega arith))

-- an exception's three words
pub bears_exn : (l : List ℕ) (hs : List Word) (e w p m : ℕ) → Bears l hs → p ≡ length hs → m ≡ exn_header e
    → p + 3 ≤ length l
    → Bears (set (set (set l p m) (p + 1) 1) (p + 2) w) (hs ++ raw (exn_header e) ∷ raw 1 ∷ raw w ∷ [])
bears_exn l hs e w p m b d q h =
    let z : length (hs ++ raw (exn_header e) ∷ raw 1 ∷ []) ≡ length hs + 2 = length-append hs (raw (exn_header e) ∷ raw 1 ∷ []) in
    subst (Bears (set (set (set l p m) (p + 1) 1) (p + 2) w)) (append_assoc hs (raw (exn_header e) ∷ raw 1 ∷ []) (raw w ∷ []))
    (bears_push (set (set l p m) (p + 1) 1) (hs ++ raw (exn_header e) ∷ raw 1 ∷ []) (raw w) (p + 2) w
    (bears_two l hs (raw (exn_header e)) (raw 1) p (p + 1) m 1 b d refl (q ∙ sym (bits_raw (exn_header e))) (sym (bits_raw 1)) (omega arith))
    (omega arith) (sym (bits_raw w)) (simp length-set (omega arith)))

module _ {r : Regs} {st he : List ℕ} {ws hs : List Word} (h : Holds r st he ws hs) (wi or : List ℕ) where
  -- a result in the place of the operands
  pub give_leads : (f : Fit r) (cost t k low x y : ℕ) → r.lp ≤ low → low ≤ r.sp
      → cost ≡ t + k
      → Leads cost (priced t (results k low x y) (core r ws hs wi or false)) (built r (low + 1) (r.hp + 2)) (take low ws ++ ref (length hs) ∷ []) (hs ++ raw x ∷ raw y ∷ []) wi or
  give_leads f cost t k low x y l m e =
      builds_lead f h wi or t cost k low (r.hp + 2) (take low ws) (raw x ∷ raw y ∷ []) refl e
      (sym (length-take-le low ws (omega (arith, h.sp)))) (omega (arith, f.fp)) (locals_take r.fp low ws (omega (arith, f.fp))) refl

  -- on top of all it is what MkBool, MkInt and MkFloat make
  pub made_on_top : (x y : ℕ) → making x y (core r ws hs wi or false) ≡ results 0 r.sp x y (core r ws hs wi or false)
  made_on_top x y =
      ap (λ (l : List Word). builds (core r ws hs wi or false) 0 l (raw x ∷ raw y ∷ []))
      (sym (take_all r.sp ws (omega (arith, h.sp))))

  -- an exception with no handler
  pub unhandled_stops : (lim : Limits) (P : Program) (t k e w : ℕ) {b : Buffers} {q : Turn}
      → P.handler ≡ 255 → q ≡ halt r (ending.Unhandled e)
      → Turned lim r b (priced t (throws P k e w) (core r ws hs wi or false)) q b
  unfolding raise
  unhandled_stops lim P t k e w {b} {q} d p =
      stops t lim r b (core r ws hs wi or false) (unhandled e)
      (pick_true (eqb P.handler 255) _ _ (of_true (eq-eqb P.handler 255 d))) p

  pub raise_leads : (P : Program) (cost t k e w : ℕ) (y : Handler) → Handled P (Some y) → cost ≡ t + k
      → Leads cost (priced t (throws P k e w) (core r ws hs wi or false)) (entered r y.ruleset y.entry) (thrown (length hs))
      (hs ++ raw (exn_header e) ∷ raw 1 ∷ raw w ∷ []) wi or
  unfolding raise locals pick
  raise_leads P cost t k e w x d c =
      let i : P.handler ≡ x.ruleset = d.0 in
      let j : P.entry P.handler ≡ x.entry = ap P.entry i ∙ d.2 in
      lead_grown t (core r ws hs wi or false) (entered r x.ruleset x.entry) cost k (raw (exn_header e) ∷ raw 1 ∷ raw w ∷ [])
      (pick_false (eqb P.handler 255) _ _ (λ z. d.1 (sym i ∙ eqb→eq P.handler 255 z))
      ∙ (λ y. goes k
      (leaving (core r ws hs wi or false)
      (record { pc = j y; fp = 5; slp = 0; rp = 0; mp = r.mp; inp = r.inp; rs = i y })
      (thrown (length hs))
      (raw (exn_header e) ∷ raw 1 ∷ raw w ∷ []))))
      c refl (ap (λ (y : ℕ). y + 3) h.hp) refl

-- ---- the application whole

-- the deed of an outcome, by which it is
module _ (P : Program) (k : ℕ) {o : Outcome} where
  pub deal_result : (sp op : ℕ) {n m : ℕ} {x : Cell} → o ≡ Ok x → m ≡ operands op → operands op ≡ n
      → dealt P k (sp - n) o ≡ results k (sp - m) x.header x.payload
  deal_result sp op {n} {m} {x} e f g =
      ap (dealt P k (sp - n)) e ∙ ap (λ (i : ℕ). results k (sp - i) x.header x.payload) (sym (f ∙ g))

  pub deal_trouble : (low : ℕ) {t u : Trouble} → o ≡ Err t → t ≡ u → dealt P k low o ≡ troubled P k u
  deal_trouble low e f = ap (dealt P k low) e ∙ ap (troubled P k) f

-- an instruction meets what its outcome does
pub deals_meet : {lim : Limits} {r : Regs} {st he : List ℕ} {n k : ℕ} {deed : Program → State → Deed} {o : Outcome} {act : State → Deed} {q : Turn} {b : Buffers} (P : Program) (t : ℕ) (wi or : List ℕ)
    → Deals r st he n k deed o → dealt P k (r.sp - n) o ≡ act
    → Meets lim r (buffers st he wi or) (priced t act) q b → Meets lim r (buffers st he wi or) (priced t (deed P)) q b
deals_meet {r = r} P t wi or d e m =
    record {
      each = λ ws hs h x y.
          turned_as t (core r ws hs wi or false)
          (d.each P ws hs wi or h x y ∙ (λ i. e i (core r ws hs wi or false)))
          (m.each ws hs h x y);
    }

pub fault_meets : {lim : Limits} {r : Regs} {b : Buffers} {q : Turn} (t n : ℕ) → q ≡ halt r (ending.Fault n)
    → Meets lim r b (priced t (λ s. ends (fault n))) q b
fault_meets {lim} {r} {b} t n e =
    record { each = λ ws hs h x y. stops t lim r b (core r ws hs b.wires b.order false) (fault n) refl e }
