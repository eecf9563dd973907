use Rattle.gate.specs.Parts.{in_order}
use Rattle.std.proofs.Common.{map, sym, ◌∙◌, arith, below_none, below_more}
use Rattle.hume.specs.Image.{program}
use Rattle.gate.proofs.Starts.{order_is, part_at}
use Rattle.gate.proofs.Lent.{rulesets_few, whole_order, lent_part, order_long, order_out, order_in}
use Rattle.gate.proofs.order.order_ok.Goals as goal

pub bounds-starts-rulesets : goal.bounds-starts-rulesets
bounds-starts-rulesets c =
    let few = rulesets_few _ c.args.order.now (map in_order c.layout-starts.result) c.requires _ c.byte_at-rulesets.ensures.is in
    omega arith

pub returns-then-order-starts : goal.returns-then-order-starts
returns-then-order-starts c =
    let all = whole_order _ c.args.order.now _ c.requires _ c.byte_at-rulesets.ensures.is c.layout-starts.ensures.ordered in
    sym (order_long _ _ (λ e. c.if-order-starts.true (e ∙ sym all ∙ order_is c.layout-starts.result c.byte_at-rulesets.result)))

pub loop-r-init : goal.loop-r-init
loop-r-init c =
    record {
      few = rulesets_few _ c.args.order.now (map in_order c.layout-starts.result) c.requires _ c.byte_at-rulesets.ensures.is;
      parts = λ j h. part_at _ _ _ j (lent_part _ _ _ c.requires _ c.byte_at-rulesets.ensures.is c.layout-starts.ensures.ordered
          (c.if-order-starts.false ∙ sym (order_is c.layout-starts.result _)) j h);
      passed = below_none _;
    }

pub slice_bounds-permutation_ok-count : goal.slice_bounds-permutation_ok-count
slice_bounds-permutation_ok-count c = (c.loop-r.invariant.parts c.loop-r.r c.loop-r-test.true).up

pub slice_bounds-permutation_ok-start : goal.slice_bounds-permutation_ok-start
slice_bounds-permutation_ok-start c = (c.loop-r.invariant.parts c.loop-r.r c.loop-r-test.true).up

pub slice_bounds-permutation_ok-end : goal.slice_bounds-permutation_ok-end
slice_bounds-permutation_ok-end c = (c.loop-r.invariant.parts c.loop-r.r c.loop-r-test.true).within

pub offset_bounds-order-starts : goal.offset_bounds-order-starts
offset_bounds-order-starts c =
    let p = c.loop-r.invariant.parts c.loop-r.r c.loop-r-test.true in omega (arith, p.up, p.within, c.well_formed)

pub permutation_ok-requires : goal.permutation_ok-requires
permutation_ok-requires c = (c.loop-r.invariant.parts c.loop-r.r c.loop-r-test.true).short

pub returns-then-not-permutation_ok : goal.returns-then-not-permutation_ok
returns-then-not-permutation_ok c =
    let p = c.loop-r.invariant.parts c.loop-r.r c.loop-r-test.true in
    sym (order_out _ _ p.long c.loop-r.r p.low (p.is ∙ sym c.permutation_ok.ensures ∙ c.if-not-permutation_ok.true))

pub loop-r-preserved : goal.loop-r-preserved
loop-r-preserved c =
    let p = c.loop-r.invariant.parts c.loop-r.r c.loop-r-test.true in
    record {
      few = c.loop-r.invariant.few;
      parts = c.loop-r.invariant.parts;
      passed = below_more _ _ c.loop-r.invariant.passed
          (p.is ∙ sym c.permutation_ok.ensures ∙ c.if-not-permutation_ok.false);
    }

pub returns : goal.returns
unfolding program
returns c =
    let all = whole_order _ c.args.order.now _ c.requires _ c.byte_at-rulesets.ensures.is c.layout-starts.ensures.ordered in
    sym (order_in _ _ (c.if-order-starts.false ∙ sym (order_is c.layout-starts.result _) ∙ all)
    (λ j h. c.loop-r.invariant.passed j (omega (arith, c.byte_at-rulesets.ensures.is, c.loop-r-test.false))))
