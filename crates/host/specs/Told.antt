-- What a host is told: the refusal's number, and, of a call that is accepted, the eight figures.
use Rattle.std.specs.Prelude.{List, ℕ, zero, suc}
use Rattle.std.proofs.lemmas.List.Edits.{sets}
use Rattle.hume.specs.Call.{Figures, Answer}
use Rattle.engine.specs.Reports.{eight}

-- the figures from the buffer's beginning on, as far as it goes; a refused call writes to no buffer
unfoldable pub recorded_by : ℕ → Figures → List ℕ → List ℕ
recorded_by zero f l = sets l 0 (eight f)
recorded_by (suc n) f l = l

unfoldable pub recorded : Answer → List ℕ → List ℕ
recorded a l = recorded_by a.refusal a.figures l
