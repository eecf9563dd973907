use Rattle.engine.proofs.WordKinds.{place_none, place_some}
use Rattle.engine.specs.Limits.{up_to}
use mathlib.Core.Path.{refl, ap, subst, sym, ◌∙◌}
use Rattle.engine.specs.Blocks.{Placed, from_place}
use Prim.Native.Nat.{ℕ, ◌+◌, ◌-◌}
use lib.ListN.{get_or}
use native.Mathlib.Omega.{arith}
use borrow.Author.Tests.{not-true, not-false}
use Rattle.engine.proofs.Turning.{settle_yes, settle_no, went_on, reads_below}
use Rattle.engine.proofs.Building.{unpack_few, unpack_no_ref, unpack_wrong, unpack_leads, bears_unpacked, block_least, small_below}
use Rattle.engine.proofs.regs.Regs.unpack.Goals as goal

pub returns-then-sp-self : goal.returns-then-sp-self
returns-then-sp-self c =
    λ wi or. record { each = λ ws hs h m n. unpack_few c.requires.fit h wi or _ c.if-sp-self.true c.halt.ensures }

pub returns-in_default : goal.returns-in_default
returns-in_default c =
    λ wi or.
    record {
      each = λ ws hs h m n.
          unpack_no_ref c.requires.fit h wi or _ (reads_below h 0 _ (omega (arith, c.if-sp-self.false)) refl)
          (small_below 0 m) c.if-sp-self.false _ (place_none _ c.place_of.ensures c.in_default.is) c.halt-in_default.ensures;
    }

pub bounds-heap-at : goal.bounds-heap-at
bounds-heap-at c =
    let p = c.requires.refs.each _ (omega (arith, c.if-sp-self.false)) (place_some _ c.place_of.ensures c.in-Some.is).0 in
    omega (arith, (place_some _ c.place_of.ensures c.in-Some.is).1, c.requires.within.heap, c.requires.fit.hp)

pub returns-then-not-is_block : goal.returns-then-not-is_block
returns-then-not-is_block c =
    let p = c.requires.refs.each _ (omega (arith, c.if-sp-self.false)) (place_some _ c.place_of.ensures c.in-Some.is).0 in
    λ wi or.
    record {
      each = λ ws hs h m n.
          unpack_wrong c.requires.fit h wi or _ (reads_below h 0 _ (omega (arith, c.if-sp-self.false)) refl)
          (small_below 0 m) c.if-sp-self.false (place_some _ c.place_of.ensures c.in-Some.is).0 _ refl p _ (sym (rw (place_some _ c.place_of.ensures c.in-Some.is).1 at c.is_block.ensures) ∙ not-true _ c.if-not-is_block.true-raw)
          c.halt-then-not-is_block.ensures;
    }

pub bounds-heap-at-2 : goal.bounds-heap-at-2
bounds-heap-at-2 c =
    let p = c.requires.refs.each _ (omega (arith, c.if-sp-self.false)) (place_some _ c.place_of.ensures c.in-Some.is).0 in
    omega (arith, (place_some _ c.place_of.ensures c.in-Some.is).1, c.requires.within.heap, c.requires.fit.hp)

pub overflow_cast-n : goal.overflow_cast-n
overflow_cast-n c =
    let p =
    c.requires.blocks.each _ (omega (arith, c.if-sp-self.false)) (place_some _ c.place_of.ensures c.in-Some.is).0
    (block_least _ (sym (rw (place_some _ c.place_of.ensures c.in-Some.is).1 at c.is_block.ensures) ∙ not-false _ c.if-not-is_block.false-raw)) in
    omega (arith, c.requires.fit.hp)

pub overflow_add-next : goal.overflow_add-next
overflow_add-next c =
    let p =
    c.requires.blocks.each _ (omega (arith, c.if-sp-self.false)) (place_some _ c.place_of.ensures c.in-Some.is).0
    (block_least _ (sym (rw (place_some _ c.place_of.ensures c.in-Some.is).1 at c.is_block.ensures) ∙ not-false _ c.if-not-is_block.false-raw)) in
    omega (arith, c.requires.fit.hp, c.requires.fit.sp)

pub put_words-requires : goal.put_words-requires
put_words-requires c =
    let p =
    c.requires.blocks.each _ (omega (arith, c.if-sp-self.false)) (place_some _ c.place_of.ensures c.in-Some.is).0
    (block_least _ (sym (rw (place_some _ c.place_of.ensures c.in-Some.is).1 at c.is_block.ensures) ∙ not-false _ c.if-not-is_block.false-raw)) in
    let d = went_on (c.charge-turn.ensures (up_to _ _) refl c.requires.within.heap) (sym c.goes_on.ensures ∙ c.if-goes_on.true) in
    (omega (arith, p, (place_some _ c.place_of.ensures c.in-Some.is).1, (ap (λ (x : ℕ). get_or c.args.heap.now (x + 1) 0) (place_some _ c.place_of.ensures c.in-Some.is).1), c.requires.within.heap, c.requires.fit.hp), omega (arith, p, (place_some _ c.place_of.ensures c.in-Some.is).1, (ap (λ (x : ℕ). get_or c.args.heap.now (x + 1) 0) (place_some _ c.place_of.ensures c.in-Some.is).1), d.depth, c.requires.within.stack))

pub returns-then-goes_on : goal.returns-then-goes_on
returns-then-goes_on c =
    let p = c.requires.refs.each _ (omega (arith, c.if-sp-self.false)) (place_some _ c.place_of.ensures c.in-Some.is).0 in
    let q =
    c.requires.blocks.each _ (omega (arith, c.if-sp-self.false)) (place_some _ c.place_of.ensures c.in-Some.is).0
    (block_least _ (sym (rw (place_some _ c.place_of.ensures c.in-Some.is).1 at c.is_block.ensures) ∙ not-false _ c.if-not-is_block.false-raw)) in
    λ wi or.
    record {
      each = λ ws hs h m n.
          settle_yes
          (unpack_leads c.requires.fit h wi or _ (reads_below h 0 _ (omega (arith, c.if-sp-self.false)) refl)
          (small_below 0 m) c.if-sp-self.false (place_some _ c.place_of.ensures c.in-Some.is).0 _ refl p _ (ap (λ (x : ℕ). get_or c.args.heap.now (x + 1) 0) (place_some _ c.place_of.ensures c.in-Some.is).1) (omega (arith, q, (place_some _ c.place_of.ensures c.in-Some.is).1, (ap (λ (x : ℕ). get_or c.args.heap.now (x + 1) 0) (place_some _ c.place_of.ensures c.in-Some.is).1))) _
          (sym (rw (place_some _ c.place_of.ensures c.in-Some.is).1 at c.is_block.ensures) ∙ not-false _ c.if-not-is_block.false-raw)) _ _ (c.charge-turn.ensures _ refl c.requires.within.heap) (sym c.goes_on.ensures ∙ c.if-goes_on.true)
          (λ a b.
          record {
            stack =
                bears_unpacked c.requires.fit h wi or _ (reads_below h 0 _ (omega (arith, c.if-sp-self.false)) refl)
                (small_below 0 m) c.if-sp-self.false (place_some _ c.place_of.ensures c.in-Some.is).0 _ refl p _ (ap (λ (x : ℕ). get_or c.args.heap.now (x + 1) 0) (place_some _ c.place_of.ensures c.in-Some.is).1) (omega (arith, q, (place_some _ c.place_of.ensures c.in-Some.is).1, (ap (λ (x : ℕ). get_or c.args.heap.now (x + 1) 0) (place_some _ c.place_of.ensures c.in-Some.is).1))) (subst (λ (x : ℕ). Placed c.args.stack.now c.put_words.new.stack (c.args.self.sp - 1) (get_or c.args.heap.now (c.in-Some.at + 1) 0) (from_place c.args.heap.now (x + 2))) (place_some _ c.place_of.ensures c.in-Some.is).1 c.put_words.ensures)
                (omega (arith, c.requires.within.stack, a));
            heap = h.heap;
            wires = refl;
            order = refl;
          });
    }

pub returns-else-goes_on : goal.returns-else-goes_on
returns-else-goes_on c =
    let p = c.requires.refs.each _ (omega (arith, c.if-sp-self.false)) (place_some _ c.place_of.ensures c.in-Some.is).0 in
    let q =
    c.requires.blocks.each _ (omega (arith, c.if-sp-self.false)) (place_some _ c.place_of.ensures c.in-Some.is).0
    (block_least _ (sym (rw (place_some _ c.place_of.ensures c.in-Some.is).1 at c.is_block.ensures) ∙ not-false _ c.if-not-is_block.false-raw)) in
    λ wi or.
    record {
      each = λ ws hs h m n.
          settle_no
          (unpack_leads c.requires.fit h wi or _ (reads_below h 0 _ (omega (arith, c.if-sp-self.false)) refl)
          (small_below 0 m) c.if-sp-self.false (place_some _ c.place_of.ensures c.in-Some.is).0 _ refl p _ (ap (λ (x : ℕ). get_or c.args.heap.now (x + 1) 0) (place_some _ c.place_of.ensures c.in-Some.is).1) (omega (arith, q, (place_some _ c.place_of.ensures c.in-Some.is).1, (ap (λ (x : ℕ). get_or c.args.heap.now (x + 1) 0) (place_some _ c.place_of.ensures c.in-Some.is).1))) _
          (sym (rw (place_some _ c.place_of.ensures c.in-Some.is).1 at c.is_block.ensures) ∙ not-false _ c.if-not-is_block.false-raw)) _ (c.charge-turn.ensures _ refl c.requires.within.heap) (sym c.goes_on.ensures ∙ c.if-goes_on.false);
    }
