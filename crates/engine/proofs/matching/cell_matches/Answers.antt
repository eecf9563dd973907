use Rattle.engine.proofs.WordKinds.{place_none, place_some}
use Rattle.engine.proofs.Trying.{seeks_other, seeks_header, seeks_any, seeks_second}
use Rattle.engine.proofs.matching.cell_matches.Goals as goal

pub returns-in_default : goal.returns-in_default
returns-in_default c = λ v hs e s h i. seeks_other e s h i _ (place_none _ c.place_of.ensures c.in_default.is)

pub returns-then-heap-p : goal.returns-then-heap-p
returns-then-heap-p c = λ v hs e s h i. seeks_header e s h i _ (place_some _ c.place_of.ensures c.in-Some.is).0 (rw (place_some _ c.place_of.ensures c.in-Some.is).1 at c.if-heap-p.true)

pub returns-in-Some-second : goal.returns-in-Some-second
returns-in-Some-second c =
    λ v hs e s h i. rw (place_some _ c.place_of.ensures c.in-Some.is).1 (seeks_second e s h i _ _ (place_some _ c.place_of.ensures c.in-Some.is).0 (rw (place_some _ c.place_of.ensures c.in-Some.is).1 at c.if-heap-p.false) c.in-Some-second.is)

pub returns-in-None : goal.returns-in-None
returns-in-None c = λ v hs e s h i. seeks_any e s h i _ (place_some _ c.place_of.ensures c.in-Some.is).0 (rw (place_some _ c.place_of.ensures c.in-Some.is).1 at c.if-heap-p.false) c.in-None.is
