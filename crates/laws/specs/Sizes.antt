-- How many words a value takes: on the heap, from its cells or in one pass over its words.
use Rattle.std.specs.Prelude.{Bool, true, ◌&&◌, List, [], ◌∷◌, ℕ, suc, ◌+◌, ◌^◌, ◌<◌, eqb, ltb}
use Rattle.hume.specs.Tests.{pick}
use Rattle.hume.specs.Words.{Word, none_header}
use Rattle.hume.specs.Values.{Value, nothing, atom, block, Values, end, more, count}

-- the heap words that a copy of the value places
unfoldable mutual
  pub size : Value → ℕ
  size nothing = 0
  size (atom h x) = 2
  size (block h vs) = sizes vs + 2 + count vs

  pub sizes : Values → ℕ
  sizes end = 0
  sizes (more v vs) = size v + sizes vs

-- its cells other than None
unfoldable mutual
  pub cells : Value → ℕ
  cells nothing = 0
  cells (atom h x) = 1
  cells (block h vs) = suc (cells_all vs)

  pub cells_all : Values → ℕ
  cells_all end = 0
  cells_all (more v vs) = cells v + cells_all vs

-- The cells other than None that words in prefix form have: None is one word, any other cell two before its fields.
unfoldable pub heads : List ℕ → ℕ
heads [] = 0
heads (h ∷ []) = pick (eqb h none_header) 0 1
heads (h ∷ x ∷ ws) =
    let alone = heads (x ∷ ws) in
    let cell = suc (heads ws) in
    pick (eqb h none_header) alone cell

-- each payload is of 32 bits
unfoldable mutual
  pub narrow : Value → Bool
  narrow nothing = true
  narrow (atom h x) = ltb x (2 ^ 32)
  narrow (block h vs) = narrows vs

  pub narrows : Values → Bool
  narrows end = true
  narrows (more v vs) = narrow v && narrows vs

-- a word that is read back from its 32 bits
pub record Small (w : Word) : Type 0 where
  pub type : w.type < 16
  pub payload : w.payload < 2 ^ 28
