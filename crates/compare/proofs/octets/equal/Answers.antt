-- `compare::octets::equal` meets its contract, by the octets that are left. Assumes nothing.
use Rattle.std.proofs.Common.{rules}
use Rattle.std.proofs.lemmas.Slice.Zip.{either_empty_from_Zip}
use Rattle.compare.proofs.theorems.Octets.{whole, next_octets, no_octets, other_lengths}
use Rattle.compare.proofs.octets.equal.Goals as goal

pub returns-then-one-two : goal.returns-then-one-two
returns-then-one-two c = other_lengths _ _ c.if-one-two.true

pub loop-a-init : goal.loop-a-init
loop-a-init c = search (rules, whole)

pub loop-a-preserved : goal.loop-a-preserved
loop-a-preserved c =
    let (first, second) = (c.in-Some.ensures {u = tt}).steps in
    ((tt, tt), tt, next_octets c.loop-a.differs _ _ _ _ _ _ _ _ first second c.loop-a.invariant.2)

pub returns : goal.returns
returns c =
    let none = either_empty_from_Zip c.loop-a.a-iterator c.next.new.self c.next.result c.in-None.is c.next.ensures.steps in
    no_octets c.loop-a.differs _ _ _ _ none c.loop-a.invariant.2
