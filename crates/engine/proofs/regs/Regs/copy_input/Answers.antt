use Rattle.engine.specs.Limits.{up_to}
use mathlib.Core.Path.{refl, sym, ◌∙◌}
use Prim.Native.Nat.{◌+◌, ◌≤◌}
use native.Mathlib.Omega.{arith}
use lib.ListN.{length}
use Rattle.laws.specs.Sizes.{size}
use Rattle.engine.proofs.Turning.{settle_yes, settle_no, went_on}
use Rattle.engine.proofs.Copying.{input_at, input_size, input_few, input_here, input_placed, copy_empty, copy_leads, copy_heap, copy_stack}
use Rattle.engine.proofs.regs.Regs.copy_input.Goals as goal

pub returns-then-k-eq0 : goal.returns-then-k-eq0
returns-then-k-eq0 c =
    λ or. record { each = λ ws hs h m n. copy_empty c.requires.fit h _ or _ _ c.if-k-eq0.true c.halt.ensures }

pub count_words-grown-requires : goal.count_words-grown-requires
count_words-grown-requires c =
    let u = input_at c.requires.wire_fits c.if-k-eq0.false in record {
      k_in_bounds = u.inside;
      le_k = omega (arith, c.if-k-eq0.false);
    }

pub overflow_add-next-2 : goal.overflow_add-next-2
overflow_add-next-2 c =
    let u = input_at c.requires.wire_fits c.if-k-eq0.false in
    let e = input_size u _ c.count_words-grown.ensures in
    let few = input_few u in
    omega (arith, c.requires.fit.hp)

pub overflow_add-hp : goal.overflow_add-hp
overflow_add-hp c =
    let pd = went_on (c.charge-turn.ensures (up_to _ _) refl refl) (sym c.goes_on.ensures ∙ c.if-goes_on.true) in omega (arith, pd.heap)

pub bounds-stack-sp : goal.bounds-stack-sp
bounds-stack-sp c =
    let pd = went_on (c.charge-turn.ensures (up_to _ _) refl refl) (sym c.goes_on.ensures ∙ c.if-goes_on.true) in omega (arith, pd.depth, c.requires.within.stack)

pub place-requires : goal.place-requires
place-requires c =
    let u = input_at c.requires.wire_fits c.if-k-eq0.false in
    let e = input_size u _ c.count_words-grown.ensures in
    let pd = went_on (c.charge-turn.ensures (up_to _ _) refl refl) (sym c.goes_on.ensures ∙ c.if-goes_on.true) in
    input_here u _ _ _ (omega (arith, e)) (omega (arith, e, input_few u, c.requires.fit.hp)) (omega (arith, pd.heap, c.requires.within.heap))

pub returns-then-goes_on : goal.returns-then-goes_on
returns-then-goes_on c =
    λ or. record {
      each = λ ws hs h m n.
          let u = input_at c.requires.wire_fits c.if-k-eq0.false in
          let e = input_size u _ c.count_words-grown.ensures in
          let pd = went_on (c.charge-turn.ensures (up_to _ _) refl refl) (sym c.goes_on.ensures ∙ c.if-goes_on.true) in
          let fits : c.args.self.hp + size u.value ≤ length c.args.heap.now = omega (arith, e, pd.heap, c.requires.within.heap) in
          let p = input_placed u (omega (arith, e)) (omega (arith, e, input_few u, c.requires.fit.hp)) (omega (arith, pd.heap, c.requires.within.heap)) c.place.ensures in
          settle_yes (copy_leads c.requires.fit h _ or _ u _ _ c.if-k-eq0.false e) _ _ (c.charge-turn.ensures _ refl refl) (sym c.goes_on.ensures ∙ c.if-goes_on.true)
          (λ x y. record {
            stack = copy_stack c.requires.fit h _ or c.args.a u p (omega (arith, pd.depth, c.requires.within.stack));
            heap = copy_heap c.requires.fit h _ or c.args.a u p fits;
            wires = refl;
            order = refl;
          });
    }

pub returns-else-goes_on : goal.returns-else-goes_on
returns-else-goes_on c =
    λ or. record {
      each = λ ws hs h m n.
          let u = input_at c.requires.wire_fits c.if-k-eq0.false in
          let e = input_size u _ c.count_words-grown.ensures in
          settle_no (copy_leads c.requires.fit h _ or _ u _ _ c.if-k-eq0.false e) _ (c.charge-turn.ensures _ refl refl) (sym c.goes_on.ensures ∙ c.if-goes_on.false);
    }
