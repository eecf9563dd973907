use Rattle.std.proofs.Common.{◌≡◌, ℕ, List, ◌++◌, refl, ap, ◌∙◌, arith}
use Rattle.std.proofs.lemmas.List.{length-take}
use Rattle.hume.specs.Image.{program, byte, ruleset_at}
use Rattle.hume.specs.Sheet.{counting, first_order}
use Rattle.gate.proofs.Rulesets.{ruleset_next, count_is}
use Rattle.sheet.proofs.Decoding.{order_next, order_part, rulesets_most, rules_most}
use Rattle.sheet.proofs.decode.Asked.first_order.Goals as goal

pub loop-r-init : goal.loop-r-init
unfolding ruleset_at first_order
loop-r-init c = record { begins = refl; near = omega arith; few = omega arith; counted = refl }

pub slice_bounds-count_up-end : goal.slice_bounds-count_up-end
slice_bounds-count_up-end c =
    let i = c.loop-r.invariant in
    let n = count_is _ _ _ _ i.begins c.byte_at-n.ensures.is in
    let few = rulesets_most _ c.args.self.now.accepted in
    let most = rules_most _ c.args.self.now.accepted c.loop-r._r (omega arith) in
    omega (arith, n, most, few)

pub count_up-requires : goal.count_up-requires
count_up-requires c =
    let n = count_is _ _ _ _ c.loop-r.invariant.begins c.byte_at-n.ensures.is in
    let most = rules_most _ c.args.self.now.accepted c.loop-r._r (omega arith) in
    omega (arith, n, most, length-take {A = ℕ})

pub loop-r-preserved : goal.loop-r-preserved
loop-r-preserved c =
    let i = c.loop-r.invariant in
    let n = count_is _ _ _ _ i.begins c.byte_at-n.ensures.is in
    let few = rulesets_most _ c.args.self.now.accepted in
    let most = rules_most _ c.args.self.now.accepted c.loop-r._r (omega arith) in
    record {
      begins = ruleset_next _ _ _ _ i.begins c.byte_at-n.ensures.is;
      near = omega (arith, n, most);
      few = omega (arith, n, most);
      counted =
          order_part c.loop-r.order c.count_up.new.order c.loop-r.done _ c.byte_at-n.result (omega (arith, n, most, few)) (omega arith) c.count_up.ensures
          ∙ ap (λ (t : List ℕ). t ++ counting 0 c.byte_at-n.result) i.counted
          ∙ order_next _ c.loop-r._r _ n;
    }

pub returns : goal.returns
unfolding program
returns c =
    let i = c.loop-r.invariant in
    let few = rulesets_most _ c.args.self.now.accepted in
    let e : c.loop-r._r ≡ byte c.args.self.now.image.now 7 = omega arith in
    (omega (arith, few), i.counted ∙ ap (λ (k : ℕ). first_order (program c.args.self.now.image.now) k) e)
