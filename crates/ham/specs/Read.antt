-- What has been read of standard input.
use Rattle.std.specs.Prelude.{◌≡◌, ◌≢◌, List, ℕ, ◌≤◌, ◌<◌, length, take}
use Rattle.hume.specs.Sheet.{printed}
use Rattle.sheet.specs.Needed.{needed}
use Rattle.sheet.specs.Lines.{Text}
use Rattle.ham.specs.declared.End.TheVariants.{Full}
use Rattle.ham.specs.declared.Got.{Got}
use Rattle.ham.specs.declared.Reply.{Reply}

-- the bytes lie in the part; they fill it, or it is said that they do not
pub record Filled (part : List ℕ) (r : Got) : Type 0 where
  pub within : r.count ≤ length part
  pub full : r.end ≡ Full → r.count ≡ length part
  pub short : r.end ≢ Full → r.count < length part

-- "Bytes after it aren't read": no byte was read that those before it did not ask for; and they are all that is needed, or it is said that
-- they are not
pub record Collected (input : List ℕ) (r : Got) : Type 0 where
  pub within : r.count ≤ length input
  pub asked : (k : ℕ) → k < r.count → k < needed (take k input)
  pub enough : r.end ≡ Full → needed (take r.count input) ≤ r.count
  pub cut : r.end ≢ Full → r.count < needed (take r.count input)

-- the line has what is printed for those bytes
pub record Replied (input before line : List ℕ) (r : Reply) : Type 0 where
  pub read : Collected input r.got
  pub text : Text 88 before line r.start (printed (take r.got.count input)) 0 88
