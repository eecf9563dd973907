-- Several words stored one after the other, and what is left of a stack.
use mathlib.Core.Path.{◌≡◌, sym, ap, ◌∙◌, subst}
use mathlib.Core.List.{List, [], ◌∷◌, ◌++◌, append-nil}
use Prim.Native.Nat.{ℕ, zero, suc, ◌+◌, ◌*◌, ◌-◌, ◌%◌, ◌≤◌, ◌<◌}
use native.Mathlib.Omega.{arith}
use lib.Dec.{eqb, eqb→eq}
use lib.ListN.{length, get_or, set, replicate, length-append, length-set}
use lib.Seq.{sets, length-take-le, get_or-append_seam, append_snoc}
use Rattle.hume.specs.Words.{Word, null, link}
use Rattle.hume.specs.State.{locals, without}
use Rattle.laws.proofs.Tests.{pick_false}
use Rattle.engine.specs.Turns.{Bears}
use Rattle.engine.proofs.Areas.{bears_push, locals_take}
use Rattle.engine.proofs.WordKinds.{bits_null}

-- none is left
pub sets_none : (l : List ℕ) (k e : ℕ) → e ≤ k → sets l k (replicate (e - k) 0) ≡ l
sets_none l k e h = let z : e - k ≡ 0 = omega arith in ap (λ (m : ℕ). sets l k (replicate m 0)) z

-- zeros above the depth are nulls
pub bears_nulls : (a : ℕ) (l : List ℕ) (ws : List Word) (i : ℕ) → Bears l ws → i ≡ length ws → i + a ≤ length l
    → Bears (sets l i (replicate a 0)) (ws ++ replicate a null)
bears_nulls zero l ws i b e k = subst (λ (x : List Word). Bears l x) (sym (append-nil ws)) b
bears_nulls (suc a) l ws i b e k =
    subst (λ (x : List Word). Bears (sets l i (replicate (suc a) 0)) x) (append_snoc ws null (replicate a null))
    (bears_nulls a (set l i 0) (ws ++ null ∷ []) (suc i)
    (bears_push l ws null i 0 b e (sym bits_null) (omega arith))
    (let z = length-append ws (null ∷ []) in omega (arith, z, e))
    (let z = length-set l i 0 in omega (arith, z, k)))

-- ---- what is left of a stack

pub length_without : (a : ℕ) (ws : List Word) → length (without a ws) ≡ length ws - a
unfolding without
length_without a ws = length-take-le (length ws - a) ws (omega arith)

pub locals_without : (fp a : ℕ) (ws : List Word) → fp ≤ length ws - a → locals fp (without a ws) ≡ locals fp ws
unfolding without
locals_without fp a ws h = locals_take fp (length ws - a) ws h

-- ---- the locals of a new frame

pub locals_link : (ws us : List Word) (fp a i : ℕ) → i ≡ length ws → a < 256
    → locals (i + 1) (ws ++ link fp a ∷ us) ≡ a
unfolding locals
locals_link ws us fp a i e k =
    let m : (fp * 256 + a) % 256 ≡ a = omega arith in
    pick_false (eqb (i + 1) 0) 0 ((get_or (ws ++ link fp a ∷ us) (i + 1 - 1) null).payload % 256)
    (λ t. let z = eqb→eq (i + 1) 0 t in omega arith)
    ∙ ap (λ (x : Word). x.payload % 256)
    (ap (λ (j : ℕ). get_or (ws ++ link fp a ∷ us) j null) (omega arith) ∙ get_or-append_seam ws (link fp a) us null)
    ∙ m
