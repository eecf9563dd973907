use mathlib.Core.Path.{refl}
use native.Mathlib.Omega.{arith}
use lib.ListN.{drop}
use Rattle.engine.specs.Outcomes.{cycle_table}
use Rattle.engine.proofs.Opening.{bytes_of, words_of, an_image, card_fits, long_enough, stack_room, heap_room, stack_part, heap_part, whole_long, underway, ran_whole, last_small, answered}
use Rattle.engine.proofs.run_accepted.Goals as goal

pub new-code-requires-clause-imaged : goal.new-code-requires-clause-imaged
new-code-requires-clause-imaged c = an_image _ c.requires (bytes_of c.type_inv.image)

pub new-code-requires-clause-prices : goal.new-code-requires-clause-prices
new-code-requires-clause-prices c = card_fits _ c.requires (bytes_of c.type_inv.image)

pub new-code-requires-clause-cycled : goal.new-code-requires-clause-cycled
unfolding cycle_table
new-code-requires-clause-cycled c = refl

pub new-code-requires-clause-in_bounds : goal.new-code-requires-clause-in_bounds
new-code-requires-clause-in_bounds c = long_enough _ c.requires (bytes_of c.type_inv.image)

pub slice_bounds-run-end : goal.slice_bounds-run-end
slice_bounds-run-end c = omega (arith, stack_room _ c.requires (bytes_of c.type_inv.image))

pub slice_bounds-run-end-2 : goal.slice_bounds-run-end-2
slice_bounds-run-end-2 c = omega (arith, stack_part _ c.requires (bytes_of c.type_inv.image))

pub slice_bounds-run-end-3 : goal.slice_bounds-run-end-3
slice_bounds-run-end-3 c = omega (arith, heap_room _ c.requires (bytes_of c.type_inv.image))

pub slice_bounds-run-end-4 : goal.slice_bounds-run-end-4
slice_bounds-run-end-4 c = omega (arith, heap_part _ c.requires (bytes_of c.type_inv.image))

pub run-ending-requires : goal.run-ending-requires
run-ending-requires c = underway _ c.requires (bytes_of c.type_inv.image) (words_of c.slice_known-3-1.given) c.ranges.t.fits c.new-code.ensures _ c.begin-first.ensures c.entry_of.ensures.0

pub wipe-requires : goal.wipe-requires
wipe-requires c = let o = ran_whole _ c.requires (bytes_of c.type_inv.image) (words_of c.slice_known-3-1.given) c.ranges.t.fits c.new-code.ensures _ c.begin-first.ensures c.entry_of.ensures.0 (drop c.args.s c.args.stack.now) (drop c.args.h c.args.heap.now) c.run-ending.ensures in omega (arith, o.holds.sp, o.holds.stack.room)

pub wipe-requires-2 : goal.wipe-requires-2
wipe-requires-2 c = let o = ran_whole _ c.requires (bytes_of c.type_inv.image) (words_of c.slice_known-3-1.given) c.ranges.t.fits c.new-code.ensures _ c.begin-first.ensures c.entry_of.ensures.0 (drop c.args.s c.args.stack.now) (drop c.args.h c.args.heap.now) c.run-ending.ensures in omega (arith, o.holds.hp, o.holds.heap.room)

pub sum_up-requires : goal.sum_up-requires
sum_up-requires c =
    let o = ran_whole _ c.requires (bytes_of c.type_inv.image) (words_of c.slice_known-3-1.given) c.ranges.t.fits c.new-code.ensures _ c.begin-first.ensures c.entry_of.ensures.0 (drop c.args.s c.args.stack.now) (drop c.args.h c.args.heap.now) c.run-ending.ensures in
    let s = last_small _ c.requires (bytes_of c.type_inv.image) (words_of c.slice_known-3-1.given) c.ranges.t.fits o in (o.left, s.pc, s.steps, s.peak, s.sp, s.hp)

pub returns : goal.returns
returns c =
    let o = ran_whole _ c.requires (bytes_of c.type_inv.image) (words_of c.slice_known-3-1.given) c.ranges.t.fits c.new-code.ensures _ c.begin-first.ensures c.entry_of.ensures.0 (drop c.args.s c.args.stack.now) (drop c.args.h c.args.heap.now) c.run-ending.ensures in
    answered _ c.requires (bytes_of c.type_inv.image) (words_of c.slice_known-3-1.given) c.ranges.t.fits o (whole_long _ _ _ (stack_room _ c.requires (bytes_of c.type_inv.image)) c.run-ending.auto.stack) (whole_long _ _ _ (heap_room _ c.requires (bytes_of c.type_inv.image)) c.run-ending.auto.heap) c.wipe.ensures c.wipe-2.ensures c.sum_up.ensures
