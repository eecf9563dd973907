-- What states that are reached and images that are accepted grant to the instructions here: the references are to whole
-- objects, and the primitives exist.
use mathlib.Core.Path.{◌≡◌, sym, ap, ◌∙◌, subst}
use mathlib.Core.Bool.{◌&&◌}
use mathlib.Core.List.{List, ◌∷◌, ◌++◌}
use Prim.Native.Nat.{ℕ, suc, ◌+◌, ◌-◌, ◌/◌, ◌%◌, ◌^◌, ◌≤◌, ◌<◌}
use native.Mathlib.Decide.{ℕ_discrete, dec_le}
use native.Mathlib.Omega.{arith}
use lib.Dec.{T, leb, leb→le}
use lib.ListN.{length, get_or, get_or-append}
use lib.Seq.{get_or_at, get_or-append-add}
use Rattle.hume.specs.Words.{Word, null, link, bits}
use Rattle.hume.specs.Image.{Program}
use Rattle.hume.specs.Refusals.{field_ok, format, format_of}
use Rattle.laws.specs.Accepted.{InstructionFits}
use Rattle.laws.specs.Whole.{Whole}
use Rattle.laws.proofs.Objects.{whole_inside, whole_block}
use Rattle.laws.proofs.Tests.{and_left, and_right}
use Rattle.reach.specs.Sound.{Plain, Frames, bottom, frame, is_null, is_ref, is_none, is_ret, is_rules, is_static}
use Rattle.engine.specs.Blocks.{Blocks}
use Rattle.engine.specs.Outcomes.{Applies}
use Rattle.engine.specs.Turns.{Smalls, Holds}
use Rattle.engine.specs.declared.regs.Regs.{Regs}
use Rattle.engine.proofs.WordKinds.{type_is, payload_is}

-- a local or a value that is a reference
plain_whole : {P : Program} {hs : List Word} (w : Word) → Plain P hs w → w.type ≡ 1 → Whole hs w.payload
plain_whole w (is_null e) t = absurd (let z = ap (λ (x : Word). x.type) e in omega (arith, z, t))
plain_whole {hs = hs} w (is_ref p e o) t = subst (Whole hs) (sym (ap (λ (x : Word). x.payload) e)) o
plain_whole w (is_none e) t = absurd (let z = ap (λ (x : Word). x.type) e in omega (arith, z, t))
plain_whole w (is_ret p e l) t = absurd (let z = ap (λ (x : Word). x.type) e in omega (arith, z, t))
plain_whole w (is_rules r k e l m) t = absurd (let z = ap (λ (x : Word). x.type) e in omega (arith, z, t))
plain_whole w (is_static p e) t = absurd (let z = ap (λ (x : Word). x.type) e in omega (arith, z, t))

-- any word of the stack
pub frames_whole : {P : Program} {hs ws : List Word} {fp : ℕ} → Frames P hs ws fp → (i : ℕ) → (get_or ws i null).type ≡ 1
    → Whole hs (get_or ws i null).payload
frames_whole (bottom ws fp e p) i t = plain_whole (get_or ws i null) (p.each i) t
frames_whole {hs = hs} (frame ws fp lower upper prev n e q j k p d g) i t =
    subst (λ (x : List Word). Whole hs (get_or x i null).payload) (sym e)
    (by (dec_le (length lower) i) (ℕ_discrete i (length lower)) (λ s. frames_whole g i s)
    (subst (λ (x : List Word). (get_or x i null).type ≡ 1) e t))
  where
    by : Dec (length lower ≤ i) → Dec (i ≡ length lower)
        → ((get_or lower i null).type ≡ 1 → Whole hs (get_or lower i null).payload)
        → (get_or (lower ++ link prev n ∷ upper) i null).type ≡ 1
        → Whole hs (get_or (lower ++ link prev n ∷ upper) i null).payload
    by (no a) b r s =
        let z = get_or-append lower (link prev n ∷ upper) null i (omega (arith, a)) in
        subst (λ (x : Word). Whole hs x.payload) (sym z) (r (ap (λ (x : Word). x.type) (sym z) ∙ s))
    by (yes a) (yes b) r s =
        absurd
        (let z = get_or_at lower (link prev n) upper null i (sym b) in
        let y = ap (λ (x : Word). x.type) z in
        omega (arith, y, s))
    by (yes a) (no b) r s =
        let m : ℕ = i - (length lower + 1) in
        let c : i ≡ length lower + suc m = omega (arith, a, b) in
        let z : get_or (lower ++ link prev n ∷ upper) i null ≡ get_or upper m null =
        ap (λ (x : ℕ). get_or (lower ++ link prev n ∷ upper) x null) c ∙ get_or-append-add lower (link prev n ∷ upper) (suc m) null in
        subst (λ (x : Word). Whole hs x.payload) (sym z)
        (plain_whole (get_or upper m null) (p.each m) (ap (λ (x : Word). x.type) (sym z) ∙ s))

module _ {P : Program} {r : Regs} {st he : List ℕ} {ws hs : List Word} (h : Holds r st he ws hs) (m : Smalls ws)
    (g : Frames P hs ws r.fp) where
  -- the object that a word refers to
  refers : (i : ℕ) → i < r.sp → get_or st i 0 / 2 ^ 28 ≡ 1 → Whole hs (get_or st i 0 % 2 ^ 28)
  refers i k t =
      let e : get_or st i 0 ≡ bits (get_or ws i null) = h.stack.get i (omega (arith, h.sp)) in
      subst (Whole hs) (sym (payload_is e (m.each i))) (frames_whole g i (sym (type_is e (m.each i)) ∙ t))

  pub frames_blocks : Blocks r st he
  frames_blocks =
      record {
        each = λ i k t l.
            let o = refers i k t in
            let z = whole_inside o in
            let a : get_or he (get_or st i 0 % 2 ^ 28) 0 ≡ bits (get_or hs (get_or st i 0 % 2 ^ 28) null) =
            h.heap.get (get_or st i 0 % 2 ^ 28) (omega (arith, z)) in
            let b : get_or he (get_or st i 0 % 2 ^ 28 + 1) 0 ≡ bits (get_or hs (get_or st i 0 % 2 ^ 28 + 1) null) =
            h.heap.get (get_or st i 0 % 2 ^ 28 + 1) (omega (arith, z)) in
            let y = (whole_block o (omega (arith, a, l))).inside in
            omega (arith, y, b, h.hp);
      }

-- ---- the image

-- a number between 1 and n
between : (a n : ℕ) → T (leb 1 a && leb a n) → (1 ≤ a) × (a ≤ n)
between a n t = (leb→le 1 a (and_left (leb 1 a) (leb a n) t), leb→le a n (and_right (leb 1 a) (leb a n) t))

first_exists : (P : Program) (op a : ℕ) → op ≡ 19 → T (field_ok P (format_of op).a a) → (1 ≤ a) × (a ≤ 3)
unfolding field_ok format_of format
first_exists P op a e t = between a 3 (subst (λ (n : ℕ). T (field_ok P (format_of n).a a)) e t)

second_exists : (P : Program) (op a : ℕ) → op ≡ 20 → T (field_ok P (format_of op).a a) → (1 ≤ a) × (a ≤ 22)
unfolding field_ok format_of format
second_exists P op a e t = between a 22 (subst (λ (n : ℕ). T (field_ok P (format_of n).a a)) e t)

pub image_applies : (P : Program) (k : ℕ) → InstructionFits P k → 19 ≤ P.opcode k → P.opcode k ≤ 21
    → Applies (P.opcode k) (P.arg_a k)
image_applies P k i l m =
    record {
      least = l;
      most = m;
      one = λ e. first_exists P (P.opcode k) (P.arg_a k) e i.a;
      two = λ e. second_exists P (P.opcode k) (P.arg_a k) e i.a;
    }
