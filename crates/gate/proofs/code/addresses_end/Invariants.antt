use Rattle.std.proofs.Common.{◌+◌, ◌*◌, ◌≤◌}
use Rattle.hume.specs.Image.{program}
use Rattle.hume.specs.Refusals.{ruleset_ok}
use Rattle.gate.proofs.Rulesets.{Walked}
use Rattle.gate.proofs.code.addresses_end.Given as goal

abbrev pub invariant-loop : goal.invariant-loop
invariant-loop l =
    record { walked : Walked l.image (ruleset_ok (program l.image)) l.counter l.at; low : l.at ≤ 11 + 513 * l.counter }
