use Rattle.std.proofs.Common.{◌+◌, ◌*◌, ◌≤◌}
use Rattle.hume.specs.Image.{program}
use Rattle.gate.specs.Parts.{count_ok}
use Rattle.gate.proofs.Rulesets.{Walked}
use Rattle.gate.proofs.image.rulesets_end.Given as goal

abbrev pub invariant-loop : goal.invariant-loop
invariant-loop l =
    record { walked : Walked l.image (count_ok (program l.image)) l.counter l.at; low : l.at ≤ 11 + 513 * l.counter }
