-- `compare::octets::equal` meets its contract. The loop's invariant: the octets that are left tell whether the slices are the same, or they
-- are two. Assumes nothing.
use Rattle.compare.proofs.theorems.Octets.{SoFar}
use Rattle.compare.proofs.octets.equal.Given as goal

abbrev pub invariant-loop-a : goal.invariant-loop-a
invariant-loop-a l =
    (goal.iterator-loop-a).can_next l.a-iterator
    × (goal.iterator-loop-a).is_finite l.a-iterator
    × SoFar l.differs l.one l.two l.a-iterator.a.rest.now l.a-iterator.b.rest.now
