-- Laws of the stack in frames: what its words are, and that pushes, cuts, stores and new frames keep its shape.
use mathlib.Core.Path.{◌≡◌, refl, sym, ap, ◌∙◌, subst}
use mathlib.Core.List.{List, [], ◌∷◌, ◌++◌, append_assoc}
use Prim.Native.Nat.{ℕ, suc, ◌+◌, ◌-◌, ◌*◌, ◌%◌, ◌≤◌, ◌<◌, min}
use native.Mathlib.Decide.{dec_le, ℕ_discrete}
use native.Mathlib.Omega.{arith}
use lib.Dec.{eqb, eqb→eq}
use lib.ListN.{length, get_or, take, set, replicate, length-append, length-take, length-set, length-replicate, get_or-append}
use lib.Seq.{take-append-add, get_or-append-add, get_or_at, append_snoc, get_or-set_other}
use Rattle.hume.specs.Words.{Word, null, link}
use Rattle.hume.specs.Image.{Program}
use Rattle.hume.specs.State.{locals}
use Rattle.laws.proofs.Tests.{pick_true, pick_false, eqb_of}
use Rattle.reach.specs.Sound.{Plain, Throughout, Frames, bottom, frame}
use Rattle.reach.proofs.Plain.{null_plain, Grows, plain_grows}
use Rattle.reach.proofs.Lists.{through_one, through_append, through_take, through_set, through_nulls, set_append_add}

-- ---- another heap that has the same whole objects

plains_grow : (P : Program) (hs gs : List Word) → Grows hs gs → (ws : List Word) → Throughout (Plain P hs) ws
    → Throughout (Plain P gs) ws
plains_grow P hs gs g ws h = record { each = λ i. plain_grows P hs gs g (get_or ws i null) (h.each i) }

-- The frames stay.
pub frames_grow : (P : Program) (hs gs : List Word) → Grows hs gs → (ws : List Word) (fp : ℕ) → Frames P hs ws fp
    → Frames P gs ws fp
frames_grow P hs gs g _ _ (bottom ws fp e h) = bottom ws fp e (plains_grow P hs gs g ws h)
frames_grow P hs gs g _ _ (frame ws fp lower upper prev n e a s r h c f) =
    frame ws fp lower upper prev n e a s r (plains_grow P hs gs g upper h) c (frames_grow P hs gs g lower prev f)

-- ---- how many locals

-- none at the bottom
locals_zero : (fp : ℕ) (ws : List Word) → fp ≡ 0 → locals fp ws ≡ 0
unfolding locals
locals_zero fp ws e = pick_true (eqb fp 0) 0 _ (eqb_of fp 0 e)

-- as many as the word before fp says
locals_at : (fp : ℕ) (ws : List Word) → (fp ≡ 0 → ⊥) → locals fp ws ≡ (get_or ws (fp - 1) null).payload % 256
unfolding locals
locals_at fp ws h = pick_false (eqb fp 0) 0 _ (λ t. h (eqb→eq fp 0 t))

locals_link : (fp : ℕ) (ws : List Word) (prev n : ℕ) → (fp ≡ 0 → ⊥) → get_or ws (fp - 1) null ≡ link prev n → n < 256
    → locals fp ws ≡ n
locals_link fp ws prev n h e s =
    let u : (get_or ws (fp - 1) null).payload ≡ prev * 256 + n = ap (λ (w : Word). w.payload) e in
    let v : locals fp ws ≡ (get_or ws (fp - 1) null).payload % 256 = locals_at fp ws h in
    omega arith

-- A store at fp or above leaves their number.
pub locals_set : (fp : ℕ) (ws : List Word) (i : ℕ) (w : Word) → fp ≤ i → locals fp (set ws i w) ≡ locals fp ws
locals_set fp ws i w h = by (ℕ_discrete fp 0)
  where
    by : Dec (fp ≡ 0) → locals fp (set ws i w) ≡ locals fp ws
    by (yes e) = locals_zero fp (set ws i w) e ∙ sym (locals_zero fp ws e)
    by (no k) =
        locals_at fp (set ws i w) k
        ∙ ap (λ (x : Word). x.payload % 256) (get_or-set_other ws i (fp - 1) w null (omega arith))
        ∙ sym (locals_at fp ws k)

-- ---- the top frame

-- The stack in two: up to fp, and from there up. What stands above may be replaced by other plain words, at least as
-- many as there are locals.
record Top (P : Program) (hs ws : List Word) (fp : ℕ) : Type 0 where
  base : List Word
  upper : List Word
  split : ws ≡ base ++ upper
  place : length base ≡ fp
  plain : Throughout (Plain P hs) upper
  room : locals fp ws ≤ length upper
  again : (us : List Word) → Throughout (Plain P hs) us → locals fp ws ≤ length us → Frames P hs (base ++ us) fp

top : (P : Program) (hs ws : List Word) (fp : ℕ) → Frames P hs ws fp → Top P hs ws fp
top P hs _ _ (bottom ws fp e h) =
    let z : locals fp ws ≡ 0 = locals_zero fp ws e in
    record {
      base = [];
      upper = ws;
      split = refl;
      place = sym e;
      plain = h;
      room = omega arith;
      again = λ us k r. bottom us fp e k;
    }
top P hs _ _ (frame ws fp lower upper prev n e a s r h c f) =
    let o : fp ≡ 0 → ⊥ = omega arith in
    let i : length lower ≡ fp - 1 = omega arith in
    let w : get_or ws (fp - 1) null ≡ link prev n =
    ap (λ (l : List Word). get_or l (fp - 1) null) e ∙ get_or_at lower (link prev n) upper null (fp - 1) i in
    let z : locals fp ws ≡ n = locals_link fp ws prev n o w s in
    let len : length (lower ++ link prev n ∷ []) ≡ length lower + 1 = length-append lower (link prev n ∷ []) in
    record {
      base = lower ++ link prev n ∷ [];
      upper = upper;
      split = e ∙ sym (append_snoc lower (link prev n) upper);
      place = omega arith;
      plain = h;
      room = omega arith;
      again = λ us k q.
          frame _ fp lower us prev n (append_snoc lower (link prev n) us) a s (omega arith) k c f;
    }

module _ (P : Program) (hs ws : List Word) (fp : ℕ) (f : Frames P hs ws fp) where
  -- lp is at most sp
  pub lp_le : fp + locals fp ws ≤ length ws
  lp_le =
      let t = top P hs ws fp f in
      let l : length ws ≡ length t.base + length t.upper =
      ap length t.split ∙ length-append t.base t.upper in
      let a : length t.base ≡ fp = t.place in
      let r : locals fp ws ≤ length t.upper = t.room in
      omega arith

  -- the words from fp up are plain
  pub word_at : (i : ℕ) → fp ≤ i → Plain P hs (get_or ws i null)
  word_at i h =
      let t = top P hs ws fp f in
      let a : length t.base ≡ fp = t.place in
      let e : length t.base + (i - fp) ≡ i = omega arith in
      subst (λ (l : List Word). Plain P hs (get_or l i null)) (sym t.split)
      (subst (λ (k : ℕ). Plain P hs (get_or (t.base ++ t.upper) k null)) e
      (subst (Plain P hs) (sym (get_or-append-add t.base t.upper (i - fp) null)) (t.plain.each (i - fp))))

  -- plain words on top
  pub frames_push : (us : List Word) → Throughout (Plain P hs) us → Frames P hs (ws ++ us) fp
  frames_push us h =
      let t = top P hs ws fp f in
      let l : length (t.upper ++ us) ≡ length t.upper + length us = length-append t.upper us in
      let r : locals fp ws ≤ length t.upper = t.room in
      let e : ws ++ us ≡ t.base ++ (t.upper ++ us) =
      ap (λ (l : List Word). l ++ us) t.split ∙ append_assoc t.base t.upper us in
      subst (λ (l : List Word). Frames P hs l fp) (sym e)
      (t.again (t.upper ++ us) (through_append (Plain P hs) t.upper us t.plain h) (omega arith))

  -- one plain word on top
  pub frames_top : (w : Word) → Plain P hs w → Frames P hs (ws ++ w ∷ []) fp
  frames_top w p = frames_push (w ∷ []) (through_one (Plain P hs) (null_plain P hs) w p)

  -- the stack cut down to k words, which are lp at least
  pub frames_cut : (k : ℕ) → fp + locals fp ws ≤ k → Frames P hs (take k ws) fp
  frames_cut k h =
      let t = top P hs ws fp f in
      let a : length t.base ≡ fp = t.place in
      let r : locals fp ws ≤ length t.upper = t.room in
      let j : k ≡ length t.base + (k - fp) = omega arith in
      let e : take k ws ≡ t.base ++ take (k - fp) t.upper =
      ap (λ (l : List Word). take k l) t.split
      ∙ ap (λ (x : ℕ). take x (t.base ++ t.upper)) j
      ∙ take-append-add t.base t.upper (k - fp) in
      let l : length (take (k - fp) t.upper) ≡ min (k - fp) (length t.upper) = length-take (k - fp) t.upper in
      subst (λ (l : List Word). Frames P hs l fp) (sym e)
      (t.again (take (k - fp) t.upper)
      (through_take (Plain P hs) (null_plain P hs) (k - fp) t.upper t.plain) (omega arith))

  -- a plain word stored at fp or above
  pub frames_put : (i : ℕ) (w : Word) → fp ≤ i → Plain P hs w → Frames P hs (set ws i w) fp
  frames_put i w h p =
      let t = top P hs ws fp f in
      let a : length t.base ≡ fp = t.place in
      let r : locals fp ws ≤ length t.upper = t.room in
      let j : i ≡ length t.base + (i - fp) = omega arith in
      let e : set ws i w ≡ t.base ++ set t.upper (i - fp) w =
      ap (λ (l : List Word). set l i w) t.split
      ∙ ap (λ (x : ℕ). set (t.base ++ t.upper) x w) j
      ∙ set_append_add t.base t.upper (i - fp) w in
      let l : length (set t.upper (i - fp) w) ≡ length t.upper = length-set t.upper (i - fp) w in
      subst (λ (l : List Word). Frames P hs l fp) (sym e)
      (t.again (set t.upper (i - fp) w) (through_set (Plain P hs) t.upper (i - fp) w p t.plain) (omega arith))

  -- a new frame with n null locals
  pub frames_make : (n : ℕ) → n < 256 → fp + locals fp ws + 3 ≤ length ws
      → Frames P hs (ws ++ link fp n ∷ replicate n null) (length ws + 1)
  frames_make n s h =
      let l : length (replicate n null) ≡ n = length-replicate n null in
      let e : length ws + 1 ≡ suc (length ws) = omega arith in
      frame _ _ ws (replicate n null) fp n refl e s (omega arith) (through_nulls (Plain P hs) (null_plain P hs) n) h f

-- ---- any word of the stack

-- A word anywhere that is no link is plain.
pub word_free : (P : Program) (hs ws : List Word) (fp : ℕ) → Frames P hs ws fp → (i : ℕ)
    → ((get_or ws i null).type ≡ 6 → ⊥) → Plain P hs (get_or ws i null)
word_free P hs _ _ (bottom ws fp e h) i k = h.each i
word_free P hs _ _ (frame ws fp lower upper prev n e a s r h c f) i k =
    by (dec_le (suc i) (length lower)) (ℕ_discrete i (length lower)) (word_free P hs lower prev f i)
  where
    all : Frames P hs ws fp
    all = frame ws fp lower upper prev n e a s r h c f

    same : i < length lower → get_or ws i null ≡ get_or lower i null
    same y = ap (λ (l : List Word). get_or l i null) e ∙ get_or-append lower (link prev n ∷ upper) null i y

    seam : i ≡ length lower → get_or ws i null ≡ link prev n
    seam q =
        ap (λ (l : List Word). get_or l i null) e ∙ get_or_at lower (link prev n) upper null i (sym q)

    by : Dec (suc i ≤ length lower) → Dec (i ≡ length lower)
        → (((get_or lower i null).type ≡ 6 → ⊥) → Plain P hs (get_or lower i null)) → Plain P hs (get_or ws i null)
    by (yes y) d later =
        subst (Plain P hs) (sym (same y))
        (later (λ t. k (ap (λ (w : Word). w.type) (same y) ∙ t)))
    by (no y) (yes q) later = absurd (k (ap (λ (w : Word). w.type) (seam q)))
    by (no y) (no q) later = word_at P hs ws fp all i (omega arith)

-- ---- back to the frame below

-- the top frame, where there is one: the stack below it, and its link
pub record Framed (P : Program) (hs ws : List Word) (fp : ℕ) : Type 0 where
  pub lower : List Word
  pub upper : List Word
  pub prev : ℕ
  pub n : ℕ
  pub split : ws ≡ lower ++ link prev n ∷ upper
  pub place : fp ≡ suc (length lower)
  pub small : n < 256
  pub saved : prev + locals prev lower + 3 ≤ length lower
  pub frames : Frames P hs lower prev

-- where fp is not 0 there is one
pub framed : (P : Program) (hs ws : List Word) (fp : ℕ) → Frames P hs ws fp → (fp ≡ 0 → ⊥) → Framed P hs ws fp
framed P hs _ _ (bottom ws fp e h) k = absurd (k e)
framed P hs _ _ (frame ws fp lower upper prev n e a s r h c f) k =
    record {
      lower = lower;
      upper = upper;
      prev = prev;
      n = n;
      split = e;
      place = a;
      small = s;
      saved = c;
      frames = f;
    }
