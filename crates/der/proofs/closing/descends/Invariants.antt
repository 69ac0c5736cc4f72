-- `der::closing::descends` meets its contract. The loop's invariant: the octets that are left decide as the whole strings do. Assumes nothing.
use mathlib.Core.Path.{◌≡◌}
use Rattle.der.specs.steps.Order.{descends}
use Rattle.der.proofs.closing.descends.Given as goal

abbrev pub invariant-loop-a : goal.invariant-loop-a
invariant-loop-a l =
    (goal.iterator-loop-a).can_next l.a-iterator
    × (goal.iterator-loop-a).is_finite l.a-iterator
    × (descends l.a-iterator.a.rest.now l.a-iterator.b.rest.now ≡ descends l.first l.second)
