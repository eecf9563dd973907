use mathlib.Core.Path.{refl, ap}
use native.Mathlib.Omega.{arith}
use Prim.Native.Nat.{ℕ, ◌+◌}
use lib.ListN.{get_or}
use Rattle.engine.proofs.Turning.{reads_below}
use Rattle.engine.proofs.Building.{small_below}
use Rattle.engine.proofs.WordKinds.{place_none, place_some}
use Rattle.engine.proofs.Yielding.{one_few, one_no_ref, one_is, fair_tried, tame_one}
use Rattle.engine.proofs.regs.Regs.try_one.Goals as goal

pub returns-then-sp-self-clause-deals : goal.returns-then-sp-self-clause-deals
returns-then-sp-self-clause-deals c =
    record { each = λ P ws hs wi or h m n. one_few h wi or P _ c.if-sp-self.true }

pub returns-in_default-clause-deals : goal.returns-in_default-clause-deals
returns-in_default-clause-deals c =
    record {
      each = λ P ws hs wi or h m n.
          one_no_ref h wi or P _ _ (reads_below h 0 _ (omega (arith, c.if-sp-self.false)) refl) (small_below 0 m) c.if-sp-self.false
          (place_none _ c.place_of.ensures c.in_default.is);
    }

pub returns-clause-deals : goal.returns-clause-deals
returns-clause-deals c =
    let p = place_some _ c.place_of.ensures c.in-Some.is in
    record {
      each = λ P ws hs wi or h m n.
          one_is h wi or P _ _ (reads_below h 0 _ (omega (arith, c.if-sp-self.false)) refl) (small_below 0 m) _ _ c.if-sp-self.false p.0
          (c.requires.refs.each _ (omega (arith, c.if-sp-self.false)) p.0) (ap (λ (x : ℕ). get_or c.args.heap.now x 0) p.1)
          (ap (λ (x : ℕ). get_or c.args.heap.now (x + 1) 0) p.1) _ c.prim1.ensures;
    }

pub returns-clause-fair : goal.returns-clause-fair
returns-clause-fair c = fair_tried c.args.self _ (tame_one _) _ _ _ _ c.prim1.ensures (omega (arith, c.if-sp-self.false))
