-- What stands on a heap: whole objects, whose fields refer lower.
use Rattle.std.specs.Prelude.{◌≡◌, List, ℕ, ◌+◌, ◌≤◌, ◌<◌, T, length, get_or}
use Rattle.hume.specs.Words.{Word, null, none, ref, raw}
use Rattle.hume.specs.Values.{atom_ok, block_ok}

mutual
  -- A whole object stands at the heap place p: a Bool, Int or Float; or a Tuple, Constr or Exn with all its fields.
  pub data Whole (hs : List Word) : ℕ → Type 0 where
    atom : (p h x : ℕ) → p + 2 ≤ length hs → get_or hs p null ≡ raw h → get_or hs (p + 1) null ≡ raw x → T (atom_ok h x)
        → Whole hs p
    block : (p h n : ℕ) → p + 2 + n ≤ length hs → get_or hs p null ≡ raw h → get_or hs (p + 1) null ≡ raw n
        → T (block_ok h n) → ((i : ℕ) → i < n → Field hs p (get_or hs (p + 2 + i) null)) → Whole hs p

  -- A field of the object at p: None, or a reference to a whole object that is lower.
  pub data Field (hs : List Word) : ℕ → Word → Type 0 where
    nothing : (p : ℕ) (w : Word) → w ≡ none → Field hs p w
    lower : (p : ℕ) (w : Word) (q : ℕ) → w ≡ ref q → q < p → Whole hs q → Field hs p w

-- A value that the heap holds: None, or a reference to a whole object.
pub data Held (hs : List Word) (w : Word) : Type 0 where
  none_held : w ≡ none → Held hs w
  ref_held : (p : ℕ) → w ≡ ref p → Whole hs p → Held hs w
