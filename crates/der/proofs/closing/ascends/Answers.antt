-- `der::closing::ascends` meets its contract. The loop's invariant: the rest, after the element before it, decides as the whole content does. The
-- measure is how many octets are left. Assumes nothing.
use Prim.Native.Nat.{ℕ}
use mathlib.Core.Path.{◌≡◌, refl, sym, ap, ap₂, ◌∙◌}
use mathlib.Core.Bool.{Bool, true, false, not, ◌&&◌}
use native.Mathlib.Omega.{arith}
use borrow.Author.Rules.{rules}
use lib.ListN.{length}
use mathlib.Core.List.{List}
use Rattle.der.specs.steps.Order.{descends, ascends, ascends_from}
use Rattle.der.proofs.theorems.lists.Ends.{filled, empty}
use Rattle.der.proofs.theorems.element.Spans.{found_none, found_some, found_one, found_fits}
use Rattle.der.proofs.theorems.closing.Ascends.{ascends_none, ascends_lost}
use Rattle.der.proofs.theorems.closing.ClosingWays.{member_next}
use Rattle.der.proofs.closing.ascends.Goals as goal
use Rattle.der.proofs.closing.ascends.Goals.{After-descends}

pub loop-before-init : goal.loop-before-init
unfolding ascends
loop-before-init c = (search rules, refl)

pub returns-in_default : goal.returns-in_default
returns-in_default c =
    let rest = c.loop-before.rest.now in
    let some = filled rest c.is_empty.ensures c.loop-before-test.true in
    sym (ascends_lost (length c.args.content.now) c.loop-before.before.now rest some c.loop-before.invariant.0 (found_none rest c.measure.ensures c.in_default.is))
    ∙ c.loop-before.invariant.1

pub overflow_add-span : goal.overflow_add-span
overflow_add-span c = search (rules, found_fits c.loop-before.rest.now c.measure.ensures c.in-Some.is)

pub split_at-requires : goal.split_at-requires
split_at-requires c = (found_fits c.loop-before.rest.now c.measure.ensures c.in-Some.is).1

-- the answer of `descends` decides
decided : (c : After-descends) → (b : Bool) → c.descends.result ≡ b
    → ascends c.args.content.now ≡ (not b && ascends_from (length c.args.content.now) c.split_at.result.0.now c.split_at.result.1.now)
decided c b is =
    let rest = c.loop-before.rest.now in
    let n = length c.args.content.now in
    let some = filled rest c.is_empty.ensures c.loop-before-test.true in
    let found = c.measure.ensures in
    sym c.loop-before.invariant.1
    ∙ member_next n c.loop-before.before.now rest c.in-Some.span some c.loop-before.invariant.0 (found_some rest found c.in-Some.is) (found_one rest found c.in-Some.is)
    ∙ ap₂ (λ (m a : List ℕ). not (descends c.loop-before.before.now m) && ascends_from n m a) (sym c.split_at.ensures.front) (sym c.split_at.ensures.back)
    ∙ ap (λ (t : Bool). not t && ascends_from n c.split_at.result.0.now c.split_at.result.1.now) (sym c.descends.ensures ∙ is)

pub returns-then-descends : goal.returns-then-descends
returns-then-descends c = sym (decided (goal.at.returns-then-descends c).After-descends true c.if-descends.true)

pub loop-before-smaller : goal.loop-before-smaller
loop-before-smaller c = omega (arith, found_fits c.loop-before.rest.now c.measure.ensures c.in-Some.is, c.split_at.ensures.back_len)

pub loop-before-preserved : goal.loop-before-preserved
loop-before-preserved c =
    (omega (arith, c.loop-before.invariant.0, c.split_at.ensures.back_len), sym (decided (goal.at.loop-before-preserved c).After-descends false c.if-descends.false))

pub returns : goal.returns
returns c =
    let none = empty c.loop-before.rest.now c.is_empty.ensures c.loop-before-test.false in
    sym (ascends_none (length c.args.content.now) c.loop-before.before.now)
    ∙ ap (ascends_from (length c.args.content.now) c.loop-before.before.now) (sym none)
    ∙ c.loop-before.invariant.1
