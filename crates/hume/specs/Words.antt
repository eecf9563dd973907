-- Document 01, "Words and registers": the words of the stack and the heap. The unlimited machine has the same words with
-- payloads of any size, so a word is its type and its payload; `bits` is its 32-bit form.
use Rattle.std.specs.Prelude.{Bool, ◌&&◌, ◌||◌, ℕ, ◌+◌, ◌*◌, ◌/◌, ◌%◌, ◌^◌, eqb}

-- "A stack or field word is type × 2^28 + payload"
pub record Word : Type 0 where
  pub type : ℕ
  pub payload : ℕ

abbrev pub word : ℕ → ℕ → Word
word t p = record { type = t; payload = p }

unfoldable pub bits : Word → ℕ
bits w = w.type * 2 ^ 28 + w.payload

-- "0 null (the whole word 0)"
abbrev pub null : Word
null = word 0 0

-- "1 reference to a heap place"
abbrev pub ref : ℕ → Word
ref p = word 1 p

-- "2 None"
abbrev pub none : Word
none = word 2 0

-- "3 return address"
abbrev pub ret : ℕ → Word
ret p = word 3 p

-- "4 ruleset × 256 + rp"
abbrev pub rules : ℕ → ℕ → Word
rules s rp = word 4 (s * 256 + rp)

-- "5 static link"
abbrev pub static : ℕ → Word
static p = word 5 p

-- "6 frame link: previous fp × 256 + locals n"
abbrev pub link : ℕ → ℕ → Word
link fp n = word 6 (fp * 256 + n)

-- A header, a size or a number n stands on the heap as the word whose 32 bits are n.
unfoldable pub raw : ℕ → Word
raw n = word (n / 2 ^ 28) (n % 2 ^ 28)

unfoldable pub is_null : Word → Bool
is_null w = eqb w.type 0 && eqb w.payload 0

unfoldable pub is_ref : Word → Bool
is_ref w = eqb w.type 1

unfoldable pub is_none : Word → Bool
is_none w = eqb w.type 2 && eqb w.payload 0

-- "a reference or None"
unfoldable pub is_value : Word → Bool
is_value w = is_ref w || is_none w

-- "The header is kind × 65536 + tag: 1 Bool (0 or 1), 2 Int, 3 Float, 4 Tuple, 5 Constr, 6 Exn (size 1), 7 None"
abbrev pub header : ℕ → ℕ → ℕ
header kind tag = kind * 65536 + tag

abbrev pub bool_header : ℕ
bool_header = header 1 0

abbrev pub int_header : ℕ
int_header = header 2 0

abbrev pub float_header : ℕ
float_header = header 3 0

abbrev pub tuple_header : ℕ
tuple_header = header 4 0

abbrev pub constr_header : ℕ → ℕ
constr_header tag = header 5 tag

abbrev pub exn_header : ℕ → ℕ
exn_header tag = header 6 tag

abbrev pub none_header : ℕ
none_header = header 7 0
