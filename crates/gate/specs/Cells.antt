-- Where values end: what the checkers of a wire's words answer.
use Rattle.std.specs.Prelude.{◌≡◌, Option, Some, List, ◌++◌, ℕ, ◌+◌, ◌≤◌, T, length, drop}
use Rattle.hume.specs.Values.{Value, Values, count, good, goods, prefix, prefixes}

-- the words from i to e are the prefix form of a good value
pub record Cell (s : List ℕ) (i e : ℕ) : Type 0 where
  pub value : Value
  pub right : T (good value)
  pub long : e ≡ i + length (prefix value)
  pub within : e ≤ length s
  pub here : drop i s ≡ prefix value ++ drop e s

-- the words from i to e are the prefix forms of n good values
pub record Fields (s : List ℕ) (i n e : ℕ) : Type 0 where
  pub values : Values
  pub many : n ≡ count values
  pub right : T (goods values)
  pub long : e ≡ i + length (prefixes values)
  pub within : e ≤ length s
  pub here : drop i s ≡ prefixes values ++ drop e s

-- e is where the value at i ends, if a good value begins there
pub record CellEnds (s : List ℕ) (i : ℕ) (e : Option ℕ) : Type 0 where
  pub sound : (n : ℕ) → e ≡ Some n → Cell s i n
  pub complete : (v : Value) (ws : List ℕ) → T (good v) → drop i s ≡ prefix v ++ ws → e ≡ Some (i + length (prefix v))

-- and so of n values
pub record FieldsEnd (s : List ℕ) (i n : ℕ) (e : Option ℕ) : Type 0 where
  pub sound : (k : ℕ) → e ≡ Some k → Fields s i n k
  pub complete : (vs : Values) (ws : List ℕ) → T (goods vs) → n ≡ count vs → drop i s ≡ prefixes vs ++ ws
      → e ≡ Some (i + length (prefixes vs))
