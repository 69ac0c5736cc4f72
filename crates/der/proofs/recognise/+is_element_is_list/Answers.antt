-- `der::recognise::is_list` and `der::recognise::is_element` meet their contracts, by one induction. The measure is twice the count of the octets, and
-- one more for an element: each call of the one by the other lowers it. The list's loop keeps this invariant: the rest, after the element before
-- it, decides as the whole list does. Assumes nothing.
use Prim.Native.Nat.{ℕ, ◌-◌, ◌<◌}
use mathlib.Core.Path.{◌≡◌, refl, sym, ap, ap₂, ◌∙◌}
use mathlib.Core.Bool.{Bool, true, false, not, ◌&&◌, ◌||◌, and-false}
use mathlib.Core.List.{List}
use native.Mathlib.Omega.{arith}
use lib.ListN.{length, take, drop, get_or, length-drop}
use Rattle.der.specs.meaning.Identifier.{allowed}
use Rattle.der.specs.steps.Order.{descends, ascends, ascends_from}
use Rattle.der.specs.steps.Recognise.{is_list, is_element}
use Rattle.der.proofs.theorems.lists.Ends.{filled, empty}
use Rattle.der.proofs.theorems.lists.Parts.{take_from}
use Rattle.der.proofs.theorems.element.Spans.{found_none, found_some, found_one, found_fits}
use Rattle.der.proofs.theorems.recognise.Recognising.{is_list_long, is_list_lost, is_list_deep, is_element_refused, is_element_inside, is_element_value}
use Rattle.der.proofs.theorems.recognise.RecogniseWays.{list_next, rest_fault, rest_done, rest_on, rest_descends}
use Rattle.der.proofs.theorems.closing.Closing.{closes_asks}
use Rattle.der.proofs.theorems.closing.ClosingWays.{member_next}
use Rattle.der.proofs.recognise.+is_element_is_list.Goals as goal
use Rattle.der.proofs.recognise.+is_element_is_list.Goals.{is_list-else-in_set-via-then-in_set+else-descends, is_list-else-in_set-via-else-in_set, is_element-Else-not-is_allowed, is_list-After-is_element, is_list-After-measure}

-- With the measure t: what holds before a call of that measure, and before one of a lower measure.
module _ (t : ℕ) where
  -- the rest is measured
  module _ (d : is_list-After-measure t) where
    -- it has octets
    some : 0 < length d.loop-before.rest.now
    some = filled d.loop-before.rest.now d.is_empty.ensures d.loop-before-test.true

    -- the answer for the whole list
    abbrev Whole : Bool
    Whole = is_list d.args.left d.args.bytes.now && (not d.args.in_set || ascends d.args.bytes.now)

    -- a fault from there on is one of the whole list
    lost : is_list d.args.left d.loop-before.rest.now ≡ false → false ≡ Whole
    lost fault =
        sym (rest_fault (length d.args.bytes.now) d.args.left d.args.in_set d.loop-before.before.now d.loop-before.rest.now fault) ∙ d.loop-before.invariant.1

  -- whether an element without a fault is at the start of the rest, and the answer for the rest after it
  module _ (c : is_list-After-is_element t) where
    abbrev After : Bool → Bool → Bool
    After sound falls =
        (sound && is_list c.args.left c.split_at.result.1.now)
        && (not c.args.in_set || (not falls && ascends_from (length c.args.bytes.now) c.split_at.result.0.now c.split_at.result.1.now))

    -- the answer of `is_element` decides
    decided : (b : Bool) → c.is_element.result ≡ b
        → Whole (goal.at.is_list-After-is_element t c).After-measure ≡ After b (descends c.loop-before.before.now c.split_at.result.0.now)
    decided b is =
        let left = c.args.left in
        let set = c.args.in_set in
        let n = length c.args.bytes.now in
        let before = c.loop-before.before.now in
        let rest = c.loop-before.rest.now in
        let h = c.in-Some.span.octets in
        let found = found_some rest c.measure.ensures c.in-Some.is in
        let one = found_one rest c.measure.ensures c.in-Some.is in
        sym c.loop-before.invariant.1
        ∙ ap₂ (λ (l r : Bool). l && (not set || r))
        (list_next left rest c.in-Some.span found one (omega (arith, c.loop-before.invariant.0, c.if-bytes-gt-LONGEST.false)) c.if-left-eq0.false)
        (member_next n before rest c.in-Some.span (some (goal.at.is_list-After-is_element t c).After-measure) c.loop-before.invariant.0 found one)
        ∙ ap₂
        (λ (m a : List ℕ). (is_element (get_or m 0 0) (left - 1) (take (length m - h) (drop h m)) && is_list left a)
        && (not set || (not (descends before m) && ascends_from n m a)))
        (sym c.split_at.ensures.front) (sym c.split_at.ensures.back)
        ∙ ap (λ (sound : Bool). After sound (descends before c.split_at.result.0.now)) (sym c.is_element.ensures ∙ is)

  -- after the first test the identifier is allowed
  known : (c : is_element-Else-not-is_allowed t) → allowed c.args.id ≡ true
  known c = sym c.is_allowed.ensures ∙ c.if-not-is_allowed.false

pub is_list-returns-then-bytes-gt-LONGEST : goal.is_list-returns-then-bytes-gt-LONGEST
is_list-returns-then-bytes-gt-LONGEST t c =
    let a = c.args in
    sym (ap (λ (b : Bool). b && (not a.in_set || ascends a.bytes.now)) (is_list_long a.left a.bytes.now c.if-bytes-gt-LONGEST.true))

pub is_list-loop-before-init : goal.is_list-loop-before-init
unfolding ascends
is_list-loop-before-init t c = (omega arith, refl)

pub is_list-returns-in_default : goal.is_list-returns-in_default
is_list-returns-in_default t c =
    let d = (goal.at.is_list-returns-in_default t c).After-measure in
    let rest = c.loop-before.rest.now in
    (lost t) d (is_list_lost c.args.left rest ((some t) d) (found_none rest c.measure.ensures c.in_default.is))

pub is_list-returns-then-left-eq0 : goal.is_list-returns-then-left-eq0
is_list-returns-then-left-eq0 t c =
    let d = (goal.at.is_list-returns-then-left-eq0 t c).After-measure in
    let rest = c.loop-before.rest.now in
    (lost t) d (ap (λ (l : ℕ). is_list l rest) c.if-left-eq0.true ∙ is_list_deep rest ((some t) d))

pub is_list-overflow_add-span : goal.is_list-overflow_add-span
is_list-overflow_add-span t c = omega (arith, found_fits c.loop-before.rest.now c.measure.ensures c.in-Some.is, c.loop-before.invariant.0, c.if-bytes-gt-LONGEST.false)

pub is_list-split_at-requires : goal.is_list-split_at-requires
is_list-split_at-requires t c = (found_fits c.loop-before.rest.now c.measure.ensures c.in-Some.is).1

pub is_list-is_element-requires : goal.is_list-is_element-requires
is_list-is_element-requires t c =
    let member = c.split_at.result.0.now in
    let h = c.in-Some.span.octets in (
      omega (
        arith,
        c.decreases,
        found_fits c.loop-before.rest.now c.measure.ensures c.in-Some.is,
        c.loop-before.invariant.0,
        c.split_at.ensures.front_len,
        ap length (take_from h member),
        length-drop h member,
      ),
      tt,
    )

pub is_list-returns-then-not-is_element : goal.is_list-returns-then-not-is_element
is_list-returns-then-not-is_element t c = sym ((decided t) (goal.at.is_list-returns-then-not-is_element t c).After-is_element false c.if-not-is_element.true)

pub is_list-returns-then-descends : goal.is_list-returns-then-descends
is_list-returns-then-descends t c =
    sym ((decided t) (goal.at.is_list-returns-then-descends t c).After-is_element true c.if-not-is_element.false
    ∙ rest_descends _ _ _ _ c.if-in_set.true (sym c.descends.ensures ∙ c.if-descends.true))

pub is_list-loop-before-smaller : goal.is_list-loop-before-smaller
is_list-loop-before-smaller t c = omega (arith, found_fits c.loop-before.rest.now c.measure.ensures c.in-Some.is, c.split_at.ensures.back_len)

pub is_list-loop-before-preserved : goal.is_list-loop-before-preserved
is_list-loop-before-preserved t c =
    let set = c.args.in_set in
    let falls = descends c.loop-before.before.now c.split_at.result.0.now in (
      omega (arith, c.loop-before.invariant.0, c.split_at.ensures.back_len),
      sym ((decided t) (goal.at.is_list-loop-before-preserved t c).After-is_element true c.if-not-is_element.false
          ∙ rest_on set falls _ _ (elim c.else-in_set.branch [
            | is_list-else-in_set-via-then-in_set+else-descends w ↦ rw (sym w.descends.ensures ∙ w.if-descends.false) (and-false set)
            | is_list-else-in_set-via-else-in_set w ↦ ap (λ (b : Bool). b && falls) w.if-in_set.false
          ])),
    )

pub is_list-returns : goal.is_list-returns
is_list-returns t c =
    let rest = c.loop-before.rest.now in
    sym (rest_done (length c.args.bytes.now) c.args.left c.args.in_set c.loop-before.before.now rest (empty rest c.is_empty.ensures c.loop-before-test.false))
    ∙ c.loop-before.invariant.1

pub is_element-returns-then-not-is_allowed : goal.is_element-returns-then-not-is_allowed
is_element-returns-then-not-is_allowed t c =
    let a = c.args in
    sym (is_element_refused a.id a.left a.content.now (sym c.is_allowed.ensures ∙ c.if-not-is_allowed.true))

pub is_element-is_list-requires : goal.is_element-is_list-requires
is_element-is_list-requires t c = (omega (arith, c.decreases), tt)

pub is_element-returns-then-is_constructed : goal.is_element-returns-then-is_constructed
is_element-returns-then-is_constructed t c =
    let e = (goal.at.is_element-returns-then-is_constructed t c).Else-not-is_allowed in
    let a = e.args in
    c.is_list.ensures
    ∙ ap (λ (b : Bool). is_list a.left a.content.now && b) (sym (closes_asks a.id a.content.now))
    ∙ sym (is_element_inside a.id a.left a.content.now ((known t) e) (sym c.is_constructed.ensures ∙ c.if-is_constructed.true))

pub is_element-returns : goal.is_element-returns
is_element-returns t c =
    let e = (goal.at.is_element-returns t c).Else-not-is_allowed in
    let a = e.args in
    c.holds.ensures
    ∙ sym (is_element_value a.id a.left a.content.now ((known t) e) (sym c.is_constructed.ensures ∙ c.if-is_constructed.false))
