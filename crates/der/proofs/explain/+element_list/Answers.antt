-- `der::explain::element` and `der::explain::list` meet their contracts, by one induction. The measure is twice the sum of the octets and the levels
-- left, and one more for a list: each call of the one by the other lowers it. The header picks the element's case. The list's loop keeps
-- this invariant: the rest answers from its place on as the whole list does. Assumes nothing.
use Rattle.std.proofs.Common.{subst}
use Rattle.std.proofs.lemmas.Result.{err_from_is_err_and}
use Prim.Native.Nat.{ℕ, ◌+◌, ◌-◌, ◌≤◌, ◌<◌}
use mathlib.Core.Path.{◌≡◌, refl, sym, ap, ◌∙◌}
use mathlib.Core.Bool.{Bool}
use mathlib.Core.List.{List}
use native.Mathlib.Omega.{arith}
use lib.ListN.{length, take, drop, length-drop}
use Rattle.der.specs.steps.Head.{Stands}
use Rattle.der.specs.steps.Header.{head_of}
use Rattle.der.specs.steps.Head.{head_from}
use Rattle.der.specs.steps.Nest.{nest_of}
use Rattle.der.specs.steps.Explain.{Lent, list_of, by_rule, after_inside, element_of}
use Rattle.der.proofs.theorems.lists.Ends.{filled, empty}
use Rattle.der.proofs.theorems.lists.Parts.{take_from}
use Rattle.der.proofs.theorems.element.Headers.{head_fits}
use Rattle.der.proofs.theorems.explain.Steps.{list_empty}
use Rattle.der.proofs.theorems.explain.ExplainWays.{lent_part, way_deep, way_broken, way_inside, way_value, way_fault, way_end, list_on, list_fault}
use Rattle.der.proofs.explain.+element_list.Goals as goal
use Rattle.der.proofs.explain.+element_list.Goals.{element-After-list, element-In-Ok, list-After-element, list-In_ok-end}

-- With the measure t: what holds before a call of that measure, and before one of a lower measure.
module _ (t : ℕ) where
  -- the header stands, with its three numbers
  module _ (c : element-In-Ok t) where
    stands : head_of c.args.bytes.now ≡ Stands c.in-Ok.header.identifier c.in-Ok.header.octets c.in-Ok.header.length
    stands = sym c.read.ensures ∙ ap head_from c.in-Ok.is

    fits : (2 ≤ c.in-Ok.header.octets) × (c.in-Ok.header.octets + c.in-Ok.header.length ≤ length c.args.bytes.now)
    fits = head_fits c.args.bytes.now _ _ _ stands

  -- the list inside answers for the element
  module _ (c : element-After-list t) where
    abbrev content : List ℕ
    content = take (c.in-Ok.header.octets + c.in-Ok.header.length - c.in-Ok.header.octets) (drop c.in-Ok.header.octets c.args.bytes.now)

    answered : after_inside c.args.place c.in-Ok.header.identifier content (nest_of c.list.result) ≡ element_of c.args.left c.args.place c.args.bytes.now
    answered =
        ap (after_inside c.args.place c.in-Ok.header.identifier content) c.list.ensures
        ∙ way_inside c.args.left c.args.place c.args.bytes.now c.if-left-eq0.false (stands (goal.at.element-After-list t c).In-Ok)
        (sym c.is_constructed.ensures ∙ c.if-is_constructed.true)

  -- the rest has octets
  some : (c : list-After-element t) → 0 < length c.loop-rest.rest.now
  some c = filled c.loop-rest.rest.now c.is_empty.ensures c.loop-rest-test.true

  -- its first element ends
  on : (c : list-In_ok-end t) →
      (c.loop-rest.at < c.in_ok-end.end)
      × (c.in_ok-end.end ≤ c.loop-rest.at + length c.loop-rest.rest.now)
      × (list_of (element_of c.args.left) (length c.args.bytes.now) c.loop-rest.at c.loop-rest.rest.now
      ≡ list_of (element_of c.args.left) (length c.args.bytes.now) c.in_ok-end.end (drop (c.in_ok-end.end - c.loop-rest.at) c.loop-rest.rest.now))
  on c =
      list_on c.args.left (length c.args.bytes.now) c.loop-rest.at c.loop-rest.rest.now (some (goal.at.list-In_ok-end t c).After-element) c.loop-rest.invariant.1
      c.element.ensures c.in_ok-end.was

pub element-returns-then-left-eq0 : goal.element-returns-then-left-eq0
element-returns-then-left-eq0 t c =
    let a = c.args in
    c.new.ensures ∙ rw c.if-left-eq0.true (way_deep a.place a.bytes.now)

pub element-returns-in-Err : goal.element-returns-in-Err
element-returns-in-Err t c =
    c.new-in-Err.ensures ∙ way_broken c.args.left c.args.place c.args.bytes.now c.if-left-eq0.false (sym c.read.ensures ∙ ap head_from c.in-Err.is)

pub element-read-requires : goal.element-read-requires
element-read-requires t c = c.requires.short

pub element-overflow_add-size : goal.element-overflow_add-size
element-overflow_add-size t c = omega (arith, (fits t) (goal.at.element-overflow_add-size t c).In-Ok, c.requires.short)

pub element-slice_bounds-inside-end : goal.element-slice_bounds-inside-end
element-slice_bounds-inside-end t c = omega (arith, (fits t) (goal.at.element-slice_bounds-inside-end t c).In-Ok)

pub element-overflow_add-place : goal.element-overflow_add-place
element-overflow_add-place t c = omega (arith, (fits t) (goal.at.element-overflow_add-place t c).In-Ok, c.requires.placed)

pub element-list-requires : goal.element-list-requires
element-list-requires t c =
    let h = c.in-Ok.header.octets in
    let fitting = (fits t) (goal.at.element-list-requires t c).In-Ok in
    let part = lent_part h (h + c.in-Ok.header.length) (omega arith) fitting.1 c.requires in
    (omega (arith, c.decreases, part.0, fitting), part.1)

pub element-returns-in_err-end : goal.element-returns-in_err-end
element-returns-in_err-end t c =
    let d = (goal.at.element-returns-in_err-end t c).After-list in
    let failed = err_from_is_err_and c.from_residual.result c.from_residual.ensures.1 in
    rw (failed.1, failed.2) (way_fault c.args.place c.in-Ok.header.identifier ((content t) d) c.in_err-end.was ∙ (answered t) d)

pub element-overflow_add-place-else-is_constructed : goal.element-overflow_add-place-else-is_constructed
element-overflow_add-place-else-is_constructed t c =
    omega (arith, (fits t) (goal.at.element-overflow_add-place-else-is_constructed t c).In-Ok, c.requires.placed)

pub element-returns-in_ok-end : goal.element-returns-in_ok-end
element-returns-in_ok-end t c =
    let d = (goal.at.element-returns-in_ok-end t c).After-list in
    c.by_rule.ensures
    ∙ ap (λ (kept : Bool). by_rule kept c.args.place c.in_ok-end.end c.in-Ok.header.identifier) c.closes.ensures
    ∙ way_end c.args.place c.in-Ok.header.identifier ((content t) d) c.in_ok-end.was
    ∙ (answered t) d

pub element-returns-else-is_constructed : goal.element-returns-else-is_constructed
element-returns-else-is_constructed t c =
    let h = c.in-Ok.header in
    c.by_rule-else-is_constructed.ensures
    ∙ ap (λ (kept : Bool). by_rule kept c.args.place (c.args.place + (h.octets + h.length)) h.identifier) c.holds.ensures
    ∙ way_value c.args.left c.args.place c.args.bytes.now c.if-left-eq0.false ((stands t) (goal.at.element-returns-else-is_constructed t c).In-Ok)
    (sym c.is_constructed.ensures ∙ c.if-is_constructed.false)

pub list-loop-rest-init : goal.list-loop-rest-init
list-loop-rest-init t c = (c.requires, omega arith, refl)

pub list-element-requires : goal.list-element-requires
list-element-requires t c = (omega (arith, c.decreases, c.loop-rest.invariant.1), c.loop-rest.invariant.0)

pub list-returns-in_err-end : goal.list-returns-in_err-end
list-returns-in_err-end t c =
    let d = (goal.at.list-returns-in_err-end t c).After-element in
    let failed = err_from_is_err_and c.from_residual.result c.from_residual.ensures.1 in
    rw (failed.1, failed.2)
    (list_fault c.args.left (length c.args.bytes.now) c.loop-rest.at c.loop-rest.rest.now ((some t) d) c.loop-rest.invariant.1 c.element.ensures c.in_err-end.was
    ∙ c.loop-rest.invariant.2)

pub list-overflow_sub-rest : goal.list-overflow_sub-rest
list-overflow_sub-rest t c = omega (arith, (on t) (goal.at.list-overflow_sub-rest t c).In_ok-end)

pub list-slice_bounds-rest-count : goal.list-slice_bounds-rest-count
list-slice_bounds-rest-count t c = omega (arith, (on t) (goal.at.list-slice_bounds-rest-count t c).In_ok-end)

pub list-slice_bounds-rest-start : goal.list-slice_bounds-rest-start
list-slice_bounds-rest-start t c = omega (arith, (on t) (goal.at.list-slice_bounds-rest-start t c).In_ok-end)

pub list-loop-rest-smaller : goal.list-loop-rest-smaller
list-loop-rest-smaller t c =
    let k = c.in_ok-end.end - c.loop-rest.at in
    let rest = c.loop-rest.rest.now in
    omega (arith, (on t) (goal.at.list-loop-rest-smaller t c).In_ok-end, ap length (take_from k rest), length-drop k rest)

pub list-loop-rest-preserved : goal.list-loop-rest-preserved
list-loop-rest-preserved t c =
    let k = c.in_ok-end.end - c.loop-rest.at in
    let rest = c.loop-rest.rest.now in
    let ends = (on t) (goal.at.list-loop-rest-preserved t c).In_ok-end in
    let part = lent_part k (length rest) (omega (arith, ends)) (omega arith) c.loop-rest.invariant.0 in
    let place : c.loop-rest.at + k ≡ c.in_ok-end.end = omega (arith, ends) in (
      subst (λ (p : ℕ). Lent (take (length rest - k) (drop k rest)) p) place part.1,
      omega (arith, part.0, c.loop-rest.invariant.1),
      ap (list_of (element_of c.args.left) (length c.args.bytes.now) c.in_ok-end.end) (take_from k rest) ∙ sym ends.2 ∙ c.loop-rest.invariant.2,
    )

pub list-returns : goal.list-returns
list-returns t c =
    let rest = c.loop-rest.rest.now in
    let judge = element_of c.args.left in
    let n = length c.args.bytes.now in
    sym (list_empty judge n c.loop-rest.at)
    ∙ ap (list_of judge n c.loop-rest.at) (sym (empty rest c.is_empty.ensures c.loop-rest-test.false))
    ∙ c.loop-rest.invariant.2
