use Rattle.engine.proofs.WordKinds.{place_none, place_some}
use mathlib.Core.Path.{refl}
use Prim.Native.Nat.{◌-◌}
use native.Mathlib.Omega.{arith}
use Rattle.engine.proofs.Turning.{settled}
use Rattle.engine.proofs.Areas.{bears_without}
use Rattle.engine.proofs.Steering.{if_few, if_no_ref, if_no_bool, if_jumps, if_stays}
use Rattle.engine.proofs.regs.Regs.if_true.Goals as goal
use Rattle.engine.proofs.regs.Regs.if_true.Goals.{then-heap-p-eq1, else-heap-p-eq1}

pub returns-then-sp-self-lt1 : goal.returns-then-sp-self-lt1
returns-then-sp-self-lt1 c =
    λ lim wi or wn. record { each = λ ws hs h m n. if_few c.requires.fit h wi or _ _ c.if-sp-self-lt1.true c.halt.ensures }

pub returns-in_default : goal.returns-in_default
returns-in_default c =
    λ lim wi or wn. record { each = λ ws hs h m n. if_no_ref c.requires.fit h wi or m c.if-sp-self-lt1.false _ refl _ _ (place_none _ c.place_of.ensures c.in_default.is) c.halt-in_default.ensures }

pub bounds-heap-p : goal.bounds-heap-p
bounds-heap-p c =
    let k = c.requires.refs.each (c.args.self.sp - 1) (omega (arith, c.if-sp-self-lt1.false)) (place_some _ c.place_of.ensures c.in-Some.is).0 in omega (arith, k, (place_some _ c.place_of.ensures c.in-Some.is).1, c.requires.fit.hp, c.requires.within.heap)

pub returns-then-heap-p-ne-BOOL : goal.returns-then-heap-p-ne-BOOL
returns-then-heap-p-ne-BOOL c =
    λ lim wi or wn. record { each = λ ws hs h m n. if_no_bool c.requires.fit h wi or m c.if-sp-self-lt1.false _ refl c.requires.refs (place_some _ c.place_of.ensures c.in-Some.is).0 _ _ (rw (place_some _ c.place_of.ensures c.in-Some.is).1 at c.if-heap-p-ne-BOOL.true) c.halt-then-heap-p-ne-BOOL.ensures }

pub bounds-heap-p-2 : goal.bounds-heap-p-2
bounds-heap-p-2 c =
    let k = c.requires.refs.each (c.args.self.sp - 1) (omega (arith, c.if-sp-self-lt1.false)) (place_some _ c.place_of.ensures c.in-Some.is).0 in omega (arith, k, (place_some _ c.place_of.ensures c.in-Some.is).1, c.requires.fit.hp, c.requires.within.heap)

pub returns : goal.returns
returns c =
    λ lim wi or wn. record {
      each = λ ws hs h m n. elim c.if-heap-p-eq1.branch [
        | then-heap-p-eq1 w ↦ settled (if_jumps c.requires.fit h wi or m c.if-sp-self-lt1.false _ refl c.requires.refs (place_some _ c.place_of.ensures c.in-Some.is).0 _ _ _ (rw (place_some _ c.place_of.ensures c.in-Some.is).1 at c.if-heap-p-ne-BOOL.false) (rw (place_some _ c.place_of.ensures c.in-Some.is).1 at w.if-heap-p-eq1.true) w.to-is) _ (c.charge.ensures _ (omega (arith, wn.stack, c.requires.fit.fp, c.requires.fit.lp)) wn.heap) (λ a b. record { stack = bears_without _ _ _ h.stack; heap = h.heap; wires = refl; order = refl })
        | else-heap-p-eq1 w ↦ settled (if_stays c.requires.fit h wi or m c.if-sp-self-lt1.false _ refl c.requires.refs (place_some _ c.place_of.ensures c.in-Some.is).0 _ _ _ (rw (place_some _ c.place_of.ensures c.in-Some.is).1 at c.if-heap-p-ne-BOOL.false) (rw (place_some _ c.place_of.ensures c.in-Some.is).1 at w.if-heap-p-eq1.false) w.to-is) _ (c.charge.ensures _ (omega (arith, wn.stack, c.requires.fit.fp, c.requires.fit.lp)) wn.heap) (λ a b. record { stack = bears_without _ _ _ h.stack; heap = h.heap; wires = refl; order = refl })
      ];
    }
