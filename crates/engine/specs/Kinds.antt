-- What the 32 bits of a word refer to.
use Rattle.std.specs.Prelude.{Option, Some, None, ℕ, ◌/◌, ◌%◌, ◌^◌, ◌==◌, if◌then◌else◌}

-- "1 reference to a heap place": that place, where they are a reference
abbrev pub place_of : ℕ → Option ℕ
place_of x = if x / 2 ^ 28 == 1 then Some (x % 2 ^ 28) else None
