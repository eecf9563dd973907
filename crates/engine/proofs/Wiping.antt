-- Zeros above the words: what a wiped area is.
use mathlib.Core.Path.{◌≡◌, refl, sym, ap, ◌∙◌}
use mathlib.Core.List.{List, [], ◌∷◌, ◌++◌, map}
use Prim.Native.Nat.{ℕ, zero, suc, ◌-◌, ◌≤◌, ◌<◌}
use native.Mathlib.Omega.{arith}
use lib.ListN.{length, get_or, take, replicate, length-map, get_or-map}
use lib.Seq.{length-take-le, ext_get_or, get_or-take}
use Rattle.hume.specs.Words.{Word, null, bits}
use Rattle.hume.specs.Call.{area}
use Rattle.engine.specs.Turns.{Bears}

get_d_other : (l : List ℕ) (i a b : ℕ) → i < length l → get_or l i a ≡ get_or l i b
get_d_other [] i a b h = absurd (omega arith)
get_d_other (x ∷ l) zero a b h = refl
get_d_other (x ∷ l) (suc i) a b h = get_d_other l i a b (omega (arith, h))

-- An area that bears the words, wiped above them, is the area of the words.
pub wiped_area : (l l' : List ℕ) (ws : List Word) (n : ℕ) → Bears l ws → n ≡ length ws → l' ≡ take n l ++ replicate (length l - n) 0
    → l' ≡ area (length l) ws
unfolding area
wiped_area l l' ws n b e p =
    p
    ∙ ap (λ (k : ℕ). take k l ++ replicate (length l - k) 0) e
    ∙ ap (λ (x : List ℕ). x ++ replicate (length l - length ws) 0) front
  where
    room : length ws ≤ length l
    room = b.room

    front : take (length ws) l ≡ map bits ws
    front =
        ext_get_or 0 (take (length ws) l) (map bits ws) (length-take-le (length ws) l room ∙ sym (length-map ws bits))
        (λ i h.
        let m : i < length ws = rw (length-take-le (length ws) l room) at h in
        get_or-take (length ws) l i 0 m ∙ b.get i m ∙ sym (got i m))
      where
        got : (i : ℕ) → i < length ws → get_or (map bits ws) i 0 ≡ bits (get_or ws i null)
        got i m = get_d_other (map bits ws) i 0 (bits null) (rw length-map m) ∙ get_or-map bits ws i null
