-- What stands in a line that is written from its end to its beginning.
use Rattle.std.specs.Prelude.{◌≡◌, List, ℕ, ◌≤◌, length, take, drop}

-- in front of the place r the line is as it was before
pub record Kept (before line : List ℕ) (r : ℕ) : Type 0 where
  pub front : take r line ≡ take r before

-- the text from r on, a place from `least` to `most`, in a line of that size
pub record Text (size : ℕ) (before line : List ℕ) (r : ℕ) (text : List ℕ) (least most : ℕ) : Type 0 where
  pub is : drop r line ≡ text
  pub kept : Kept before line r
  pub low : least ≤ r
  pub high : r ≤ most
  pub sized : length line ≡ size
