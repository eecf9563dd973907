-- What `to_int` answers, as the option that document 01's toInt.f is defined by.
use Rattle.std.specs.Prelude.{ℕ, Option, Some, None}
use Rattle.std.proofs.Math.Option as maybe

abbrev pub cut : Option ℕ → maybe.Option ℕ
cut (Some w) = maybe.some w
cut None = maybe.none
