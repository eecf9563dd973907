-- Areas that bear words: what loads and stores are, of the words.
use mathlib.Core.Path.{◌≡◌, refl, sym, ap, ◌∙◌}
use mathlib.Core.List.{List, [], ◌∷◌, ◌++◌}
use Prim.Native.Nat.{ℕ, zero, suc, ◌+◌, ◌-◌, ◌≤◌, ◌<◌}
use native.Mathlib.Omega.{arith}
use native.Mathlib.Decide.{ℕ_discrete}
use lib.ListN.{length, get_or, set, take, length-append, length-set, get_or-append}
use lib.Seq.{get_or-take, length-take-le, get_or-set_same, get_or-set_other, get_or-append_seam}
use Rattle.hume.specs.Words.{Word, null, bits}
use Rattle.hume.specs.State.{locals, without}
use Rattle.hume.specs.Tests.{pick}
use Rattle.engine.specs.Turns.{Bears}

-- ---- the locals of a frame: they are read from the word below fp alone

locals_by : (fp : ℕ) (ws vs : List Word) → get_or ws fp null ≡ get_or vs fp null → locals (suc fp) ws ≡ locals (suc fp) vs
unfolding locals
locals_by fp ws vs e = let z : suc fp - 1 ≡ fp = omega arith in rw (z, e)

pub locals_take : (fp k : ℕ) (ws : List Word) → fp ≤ k → locals fp (take k ws) ≡ locals fp ws
unfolding locals pick
locals_take zero k ws h = refl
locals_take (suc fp) k ws h = locals_by fp (take k ws) ws (get_or-take k ws fp null h)

pub locals_append : (fp : ℕ) (ws vs : List Word) → fp ≤ length ws → locals fp (ws ++ vs) ≡ locals fp ws
unfolding locals pick
locals_append zero ws vs h = refl
locals_append (suc fp) ws vs h = locals_by fp (ws ++ vs) ws (get_or-append ws vs null fp h)

pub locals_set : (fp i : ℕ) (ws : List Word) (w : Word) → fp ≤ i → locals fp (set ws i w) ≡ locals fp ws
unfolding locals pick
locals_set zero i ws w h = refl
locals_set (suc fp) i ws w h = locals_by fp (set ws i w) ws (get_or-set_other ws i fp w null (λ e. omega (arith, e)))

-- ---- what an area bears after a store

-- a word more: it is stored at the depth
pub bears_push : (l : List ℕ) (ws : List Word) (w : Word) (i n : ℕ) → Bears l ws → i ≡ length ws → n ≡ bits w → i < length l
    → Bears (set l i n) (ws ++ w ∷ [])
bears_push l ws w i n b e p h =
    record {
      room = let r = b.room in rw (length-set, length-append) (omega arith);
      get = λ j k. by j (rw length-append at k) (ℕ_discrete j i);
    }
  where
    by : (j : ℕ) → j < length ws + 1 → Dec (j ≡ i) → get_or (set l i n) j 0 ≡ bits (get_or (ws ++ w ∷ []) j null)
    by j k (yes q) =
        ap (λ (x : ℕ). get_or (set l i n) x 0) q
        ∙ get_or-set_same l i n 0 h
        ∙ p
        ∙ ap bits (sym (get_or-append_seam ws w [] null))
        ∙ ap (λ (x : ℕ). bits (get_or (ws ++ w ∷ []) x null)) (sym (q ∙ e))
    by j k (no q) =
        let m : j < length ws = omega (arith, e, q) in
        get_or-set_other l i j n 0 q ∙ b.get j m ∙ ap bits (sym (get_or-append ws (w ∷ []) null j m))

-- fewer words: nothing is stored
pub bears_take : (l : List ℕ) (ws : List Word) (k : ℕ) → k ≤ length ws → Bears l ws → Bears l (take k ws)
bears_take l ws k h b =
    record {
      room = let r = b.room in rw (length-take-le k ws h) (omega arith);
      get = λ j m.
          let n : j < k = rw (length-take-le k ws h) at m in
          b.get j (omega arith) ∙ ap bits (sym (get_or-take k ws j null n));
    }

pub bears_without : (l : List ℕ) (ws : List Word) (a : ℕ) → Bears l ws → Bears l (without a ws)
unfolding without
bears_without l ws a b = bears_take l ws (length ws - a) (omega arith) b

-- another word in a place
pub bears_set : (l : List ℕ) (ws : List Word) (w : Word) (i n : ℕ) → Bears l ws → n ≡ bits w → i < length ws
    → Bears (set l i n) (set ws i w)
bears_set l ws w i n b p h =
    record {
      room = rw (length-set l, length-set ws) b.room;
      get = λ j k. by j (rw length-set at k) (ℕ_discrete j i);
    }
  where
    by : (j : ℕ) → j < length ws → Dec (j ≡ i) → get_or (set l i n) j 0 ≡ bits (get_or (set ws i w) j null)
    by j k (yes q) =
        let r = b.room in
        ap (λ (x : ℕ). get_or (set l i n) x 0) q
        ∙ get_or-set_same l i n 0 (omega arith)
        ∙ p
        ∙ ap bits (sym (get_or-set_same ws i w null h))
        ∙ ap (λ (x : ℕ). bits (get_or (set ws i w) x null)) (sym q)
    by j k (no q) = get_or-set_other l i j n 0 q ∙ b.get j k ∙ ap bits (sym (get_or-set_other ws i j w null q))
