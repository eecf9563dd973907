use mathlib.Core.Path.{refl, ap}
use native.Mathlib.Omega.{arith}
use Prim.Native.Nat.{ℕ, ◌+◌}
use lib.ListN.{get_or}
use Rattle.engine.proofs.Turning.{reads_below}
use Rattle.engine.proofs.Building.{small_below}
use Rattle.engine.proofs.WordKinds.{place_none, place_some}
use Rattle.engine.proofs.Yielding.{two_few, two_no_first, two_no_second, two_is, fair_tried, tame_two}
use Rattle.engine.proofs.regs.Regs.try_two.Goals as goal

pub returns-then-sp-self-lt2-clause-deals : goal.returns-then-sp-self-lt2-clause-deals
returns-then-sp-self-lt2-clause-deals c =
    record { each = λ P ws hs wi or h m n. two_few h wi or P _ c.if-sp-self-lt2.true }

pub returns-in_default-clause-deals : goal.returns-in_default-clause-deals
returns-in_default-clause-deals c =
    record {
      each = λ P ws hs wi or h m n.
          two_no_first h wi or P _ _ _ (reads_below h 0 _ (omega (arith, c.if-sp-self-lt2.false)) refl)
          (reads_below h 1 _ (omega (arith, c.if-sp-self-lt2.false)) refl) (small_below 0 m) (small_below 1 m) c.if-sp-self-lt2.false
          (place_none _ c.place_of.ensures c.in_default.is);
    }

pub returns-in_default-place_of-clause-deals : goal.returns-in_default-place_of-clause-deals
returns-in_default-place_of-clause-deals c =
    record {
      each = λ P ws hs wi or h m n.
          two_no_second h wi or P _ _ _ (reads_below h 0 _ (omega (arith, c.if-sp-self-lt2.false)) refl)
          (reads_below h 1 _ (omega (arith, c.if-sp-self-lt2.false)) refl) (small_below 0 m) (small_below 1 m) c.if-sp-self-lt2.false
          (place_none _ c.place_of-2.ensures c.in_default-place_of.is);
    }

pub returns-clause-deals : goal.returns-clause-deals
returns-clause-deals c =
    let p = place_some _ c.place_of.ensures c.in-Some.is in
    let q = place_some _ c.place_of-2.ensures c.in-Some-place_of.is in
    record {
      each = λ P ws hs wi or h m n.
          two_is h wi or P _ _ _ (reads_below h 0 _ (omega (arith, c.if-sp-self-lt2.false)) refl)
          (reads_below h 1 _ (omega (arith, c.if-sp-self-lt2.false)) refl) (small_below 0 m) (small_below 1 m) c.if-sp-self-lt2.false _ _ _ _
          p.0 q.0 (c.requires.refs.each _ (omega (arith, c.if-sp-self-lt2.false)) p.0)
          (c.requires.refs.each _ (omega (arith, c.if-sp-self-lt2.false)) q.0) (ap (λ (x : ℕ). get_or c.args.heap.now x 0) p.1)
          (ap (λ (x : ℕ). get_or c.args.heap.now (x + 1) 0) p.1) (ap (λ (x : ℕ). get_or c.args.heap.now x 0) q.1)
          (ap (λ (x : ℕ). get_or c.args.heap.now (x + 1) 0) q.1) _ c.prim2.ensures;
    }

pub returns-clause-fair : goal.returns-clause-fair
returns-clause-fair c = fair_tried c.args.self _ (tame_two _) _ _ _ _ c.prim2.ensures (omega (arith, c.if-sp-self-lt2.false))
