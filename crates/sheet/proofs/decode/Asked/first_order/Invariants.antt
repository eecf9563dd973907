use Rattle.std.proofs.Common.{◌≡◌, ◌+◌, ◌*◌, ◌≤◌, take}
use Rattle.hume.specs.Image.{program, ruleset_at}
use Rattle.hume.specs.Sheet.{first_order}
use Rattle.sheet.proofs.decode.Asked.first_order.Given as goal

abbrev pub invariant-loop-r : goal.invariant-loop-r
invariant-loop-r l =
    record {
      begins : l.at ≡ ruleset_at l.self.image.now l._r;
      near : l.at ≤ 11 + 35 * l._r;
      few : l.done ≤ 16 * l._r;
      counted : take l.done l.order ≡ first_order (program l.self.image.now) l._r;
    }
