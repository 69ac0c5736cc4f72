-- `crmf::recognise::list` and `element` meet their contracts, by one induction on the bytes that are left: an inside has fewer. The list's loop
-- keeps this: the count from its spot on is the whole list's. An element's count is what its line and its content say. Assumes nothing.
use Prim.Native.Nat.{ℕ, ◌+◌, ◌-◌, ◌≤◌, ◌<◌}
use mathlib.Core.Path.{◌≡◌, sym, ap, subst, ◌∙◌}
use mathlib.Core.Bool.{Bool}
use mathlib.Core.List.{List}
use native.Mathlib.Omega.{arith}
use lib.ListN.{length, take, drop, get_or, length-take, length-drop}
use lib.Seq.{slice, length-slice}
use Rattle.std.specs.Prelude.{Option, Some, None, Ok}
use Rattle.std.specs.Bool.{then_some}
use Rattle.der.specs.declared.element.length.Span.{Span}
use Rattle.der.specs.meaning.Bounds.{longest}
use Rattle.der.specs.steps.Span.{span_of, found_span}
use Rattle.crmf.specs.steps.recognise.Count.{counts_at}
use Rattle.crmf.specs.declared.rows.Spot.{Spot}
use Rattle.crmf.specs.declared.recognise.step.Visit.{Visit}
use Rattle.crmf.specs.declared.recognise.step.Visit.TheVariants.{Descend}
use Rattle.crmf.specs.steps.explain.Walk.{line, find_line, judged, rows_by}
use Rattle.crmf.specs.steps.recognise.Inner.{content_count, Countable, Sized, VisitJustified, ElementCounted}
use Rattle.crmf.specs.steps.grammar.Packed.{inside_field}
use Rattle.crmf.proofs.theorems.lines.WordFields.{inside_at as inside-field}
use Rattle.crmf.proofs.theorems.lines.Search.{found_names}
use Rattle.der.proofs.Laws.{take_slice, take_from, found_none, found_some, found_one}
use Rattle.crmf.proofs.theorems.recognise.CountPlaces.{stops, advances, advance_past, place_fits, place_nowhere, place_refused, place_nothing, place_past, place_sized, answered, ends}
use Rattle.crmf.proofs.theorems.recognise.CountWays.{at_lost, at_deep}
use Rattle.crmf.proofs.recognise.+element_list.Goals as goal
use Rattle.crmf.proofs.recognise.+element_list.Goals.{element-After-list, element-After-measure, element-Else-left-eq0, element-After-take, element-Start, list-At-loop-spot}

-- a part of a lent slice is not longer than it
part_short : (at : ℕ) (s : List ℕ) (n : ℕ) → length s ≤ longest → length (take n (drop at s)) ≤ longest
part_short at s n short = simp (length-take, length-drop) (omega arith)

-- the count inside an element is the answer for its bytes, as they were lent
inside_same : (e l p : ℕ) {r m : Option ℕ} {s s' n n' : ℕ} {b b' : List ℕ} → r ≡ counts_at e l s' n' p b' → m ≡ counts_at e l s n p b → s ≡ s' → n ≡ n' → b ≡ b' → r ≡ m
inside_same e l p counted same start rows part = cc

-- With the measure t: what holds before a call of that measure, and before one of a lower.
module _ (t : ℕ) where
  -- the bytes from the element's spot on, and the span that is measured of them
  module _ (c : element-After-measure t) where
    abbrev start : element-Start t
    start = (goal.at.element-After-measure t c).Start

    abbrev bytes : List ℕ
    bytes = start.args.bytes.now

    abbrev spot : Spot
    spot = start.args.spot

    lent : Countable (drop spot.at bytes) spot.row
    lent = start.requires.0

    -- the span is that of the bytes from the spot on
    part_of : c.measure.result ≡ found_span (span_of (drop spot.at bytes))
    part_of = c.measure.ensures ∙ ap (λ (l : List ℕ). found_span (span_of l)) (take_from spot.at bytes)

    short : length (drop spot.at bytes) ≤ longest
    short = omega (arith, lent.room)

    more : 0 < length (drop spot.at bytes)
    more = simp length-drop (omega (arith, start.requires.1))

  -- the element has a span, and a level of depth is left
  module _ (c : element-Else-left-eq0 t) where
    abbrev measuring : element-After-measure t
    measuring = (goal.at.element-Else-left-eq0 t c).After-measure

    abbrev begun : element-Start t
    begun = start measuring

    abbrev x : Span
    x = c.in_ok-x.x

    measured : x ≡ span_of (drop begun.args.spot.at begun.args.bytes.now)
    measured = found_some _ (part_of measuring) c.in_ok-x.was

    some : x.octets ≡ 0 → ⊥
    some = subst (λ (y : Span). y.octets ≡ 0 → ⊥) (sym measured) (found_one _ (part_of measuring) c.in_ok-x.was)

    deep : begun.args.left ≡ 0 → ⊥
    deep = c.if-left-eq0.false

    fits : (2 ≤ x.octets) × (begun.args.spot.at + (x.octets + x.length) ≤ length begun.args.bytes.now)
    fits =
        place_fits begun.args.edition begun.args.left begun.args.spot.state begun.args.spot.row begun.args.spot.at begun.args.bytes.now x
        (short measuring) measured some deep

    -- with as many bytes as there are rows for
    room : begun.args.spot.row + (length begun.args.bytes.now - begun.args.spot.at) ≤ longest
    room = omega (arith, (lent measuring).room, length-drop begun.args.spot.at begun.args.bytes.now)

  -- the line that is found, and what it says of the element
  module _ (c : element-After-take t) where
    abbrev at_element : element-Else-left-eq0 t
    at_element = (goal.at.element-After-take t c).Else-left-eq0

    abbrev begin : element-Start t
    begin = begun at_element

    abbrev span : Span
    span = x at_element

    abbrev j : ℕ
    j = c.in_ok-k.k

    abbrev content : List ℕ
    content = slice (begin.args.spot.at + span.octets) (begin.args.spot.at + span.octets + span.length) begin.args.bytes.now

    found : find_line begin.args.spot.state (get_or begin.args.bytes.now begin.args.spot.at 0) ≡ Some j
    found = sym c.find_line.ensures ∙ c.in_ok-k.was

    part : take (begin.args.spot.at + span.octets + span.length - (begin.args.spot.at + span.octets)) (drop (begin.args.spot.at + span.octets) begin.args.bytes.now) ≡ content
    part = take_slice (begin.args.spot.at + span.octets) (begin.args.spot.at + span.octets + span.length) begin.args.bytes.now (omega arith)

    content_size : length content ≡ span.length
    content_size =
        length-slice (begin.args.spot.at + span.octets) (begin.args.spot.at + span.octets + span.length) begin.args.bytes.now (omega (arith, fits at_element))
        ∙ omega arith

    -- how the element may be visited
    abbrev Says : Option Visit → Type 0
    Says = VisitJustified begin.args.edition j (span.octets + span.length) (begin.args.left - 1) (get_or begin.args.bytes.now begin.args.spot.at 0) content

    -- the rows before what is inside it
    rows : begin.args.spot.row + c.rows_of.result ≡ begin.args.spot.row + rows_by (line j)
    rows = ap (λ (n : ℕ). begin.args.spot.row + n) (c.rows_of.ensures j c.word-word.ensures).0

    taken : Says c.take.result
    taken =
        subst (λ (l : List ℕ). VisitJustified begin.args.edition j (span.octets + span.length) (begin.args.left - 1) (get_or begin.args.bytes.now begin.args.spot.at 0) l c.take.result) part
        (c.take.ensures j (span.octets + span.length) c.word-word.ensures (found_names _ _ j found)
        (subst (Sized (span.octets + span.length)) (sym part) sized))
      where
        sized : Sized (span.octets + span.length) content
        sized =
            place_sized begin.args.edition begin.args.left begin.args.spot.state begin.args.spot.row begin.args.spot.at begin.args.bytes.now span
            (short (measuring at_element)) (measured at_element) (some at_element) (deep at_element)

  -- it goes on after an element that has its rows
  goes_on : (c : element-After-take t) (next m : ℕ)
      → judged (line (j c)).judge (line (j c)).next (content c) ≡ Ok next
      → ((p : ℕ) → content_count (begin c).args.edition (j c) ((span c).octets + (span c).length) ((begin c).args.left - 1) ((begin c).args.spot.row + rows_by (line (j c))) p (get_or (begin c).args.bytes.now (begin c).args.spot.at 0) (content c) ≡ Some m)
      → m ≤ (begin c).args.spot.row + ((span c).octets + (span c).length)
      → let a = (begin c).args in
      ElementCounted a.edition a.left a.spot a.bytes.now (Some (record { state = next; at = a.spot.at + (span c).octets + (span c).length; row = m }))
  goes_on c next m on counted few =
      let a = (begin c).args in
      let d = at_element c in
      let y = measuring d in
      advances
      (place_past a.edition a.left a.spot.state a.spot.row a.spot.at a.bytes.now (span c) (short y) (measured d) (some d) (deep d) (j c) (found c) next m on counted)
      (omega (arith, fits d, few))

  -- what the list inside the element answers
  module _ (c : element-After-list t) where
    abbrev visited : element-After-take t
    visited = (goal.at.element-After-list t c).After-take

    descends : Says visited (Some (Descend c.in-Descend.next))
    descends = subst (Says visited) (c.in_ok-next.was ∙ ap Some c.in-Descend.is) (taken visited)

    -- the rows up to its end are the content's
    inside_counted : (p : ℕ)
        → content_count (begin visited).args.edition (j visited) ((span visited).octets + (span visited).length) ((begin visited).args.left - 1) ((begin visited).args.spot.row + rows_by (line (j visited))) p (get_or (begin visited).args.bytes.now (begin visited).args.spot.at 0) (content visited)
        ≡ c.list.result
    inside_counted p =
        let starts : c.inside_of.result ≡ (line (j visited)).inside =
        c.inside_of.ensures ∙ ap inside_field visited.word-word.ensures ∙ inside-field (j visited) in
        inside_same (begin visited).args.edition ((begin visited).args.left - 1) p (descends.1 _ p) (c.list.ensures.same p)
        starts (rows visited) (part visited)

pub element-returns-in_err-x : goal.element-returns-in_err-x
element-returns-in_err-x t c =
    let m = (goal.at.element-returns-in_err-x t c).After-measure in
    let a = ((start t) m).args in
    rw c.from_residual.ensures
    (stops a.edition a.left a.spot a.bytes.now
    (λ p. at_lost a.edition a.left a.spot.state a.spot.row (p + a.spot.at) (drop a.spot.at a.bytes.now) ((more t) m)
    (found_none _ ((part_of t) m) c.in_err-x.was)))

pub element-returns-then-left-eq0 : goal.element-returns-then-left-eq0
element-returns-then-left-eq0 t c =
    let m = (goal.at.element-returns-then-left-eq0 t c).After-measure in
    let a = ((start t) m).args in
    stops a.edition a.left a.spot a.bytes.now
    (λ p. subst (λ (l : ℕ). counts_at a.edition l a.spot.state a.spot.row (p + a.spot.at) (drop a.spot.at a.bytes.now) ≡ None) (sym c.if-left-eq0.true)
    (at_deep a.edition a.spot.state a.spot.row (p + a.spot.at) (drop a.spot.at a.bytes.now) ((more t) m)))

pub element-overflow_add-from : goal.element-overflow_add-from
element-overflow_add-from t c = omega (arith, (fits t) c, ((begun t) c).requires.2)

pub element-overflow_add-to : goal.element-overflow_add-to
element-overflow_add-to t c =
    let d = (goal.at.element-overflow_add-to t c).Else-left-eq0 in
    omega (arith, (fits t) d, ((begun t) d).requires.2)

pub element-returns-in_err-k : goal.element-returns-in_err-k
element-returns-in_err-k t c =
    let d = (goal.at.element-returns-in_err-k t c).Else-left-eq0 in
    let m = (measuring t) d in
    let a = ((begun t) d).args in
    rw c.from_residual-in_err-k.ensures
    (stops a.edition a.left a.spot a.bytes.now
    (λ p. place_nowhere a.edition a.left a.spot.state a.spot.row a.spot.at a.bytes.now ((x t) d) ((short t) m) ((measured t) d) ((some t) d) ((deep t) d)
    (sym c.find_line.ensures ∙ c.in_err-k.was) (p + a.spot.at)))

pub element-slice_bounds-content-end : goal.element-slice_bounds-content-end
element-slice_bounds-content-end t c = omega (arith, (fits t) (goal.at.element-slice_bounds-content-end t c).Else-left-eq0)

pub element-returns-in_err-next : goal.element-returns-in_err-next
element-returns-in_err-next t c =
    let k = (goal.at.element-returns-in_err-next t c).After-take in
    let a = ((begin t) k).args in
    let d = (at_element t) k in
    let y = (measuring t) d in
    rw c.from_residual-in_err-next.ensures
    (stops a.edition a.left a.spot a.bytes.now
    (λ p. place_refused a.edition a.left a.spot.state a.spot.row a.spot.at a.bytes.now ((span t) k) ((short t) y) ((measured t) d) ((some t) d) ((deep t) d) ((j t) k) ((found t) k)
    (subst ((Says t) k) c.in_err-next.was ((taken t) k)) (p + a.spot.at)))

pub element-list-requires : goal.element-list-requires
element-list-requires t c =
    let k = (goal.at.element-list-requires t c).After-take in
    let d = (at_element t) k in
    let f = (fits t) d in
    let size = ap length ((part t) k) ∙ (content_size t) k in (
      omega (arith, ((begin t) k).decreases, f, size),
      record { room = omega (arith, size, f, (room t) d, (k.rows_of.ensures ((j t) k) k.word-word.ensures).1) },
    )

pub element-returns-in_err-list-in-Descend : goal.element-returns-in_err-list-in-Descend
element-returns-in_err-list-in-Descend t c =
    let l = (goal.at.element-returns-in_err-list-in-Descend t c).After-list in
    let k = (visited t) l in
    let a = ((begin t) k).args in
    let d = (at_element t) k in
    let y = (measuring t) d in
    rw c.from_residual-in_err-list-in-Descend.ensures
    (stops a.edition a.left a.spot a.bytes.now
    (λ p. place_nothing a.edition a.left a.spot.state a.spot.row a.spot.at a.bytes.now ((span t) k) ((short t) y) ((measured t) d) ((some t) d) ((deep t) d) ((j t) k) ((found t) k)
    (λ q. (inside_counted t) l q ∙ c.in_err-list-in-Descend.was) (p + a.spot.at)))

pub element-returns-in-Skip : goal.element-returns-in-Skip
element-returns-in-Skip t c =
    let k = (goal.at.element-returns-in-Skip t c).After-take in
    let told = subst ((Says t) k) (c.in_ok-next.was ∙ ap Some c.in-Skip.is) ((taken t) k) in
    (goes_on t) k _ _ told.0 (λ p. told.1 _ p ∙ ap Some (sym ((rows t) k)))
    (omega (arith, (fits t) ((at_element t) k), (k.rows_of.ensures ((j t) k) k.word-word.ensures).1))

pub element-returns-in_ok-list-in-Descend : goal.element-returns-in_ok-list-in-Descend
element-returns-in_ok-list-in-Descend t c =
    let l = (goal.at.element-returns-in_ok-list-in-Descend t c).After-list in
    let k = (visited t) l in
    let size = ap length ((part t) k) ∙ (content_size t) k in
    (goes_on t) k _ _ ((descends t) l).0 (λ p. (inside_counted t) l p ∙ c.in_ok-list-in-Descend.was)
    (omega (arith, (fits t) ((at_element t) k), size, l.list.ensures.few _ c.in_ok-list-in-Descend.was, (k.rows_of.ensures ((j t) k) k.word-word.ensures).1))

pub list-loop-spot-preserved : goal.list-loop-spot-preserved
list-loop-spot-preserved t c =
    let i = c.loop-spot in
    let w = c.element.ensures in
    let f = w.forward _ c.in_ok-spot.was in (
      f.1,
      omega (arith, f.2, i.invariant.1),
      λ p. sym (advance_past w p _ c.in_ok-spot.was) ∙ i.invariant.2 p,
    )

pub list-returns : goal.list-returns
list-returns t c =
    let a = c.args in
    let i = c.loop-spot in
    record {
      same = λ p. c.then_some.ensures ∙ ap (λ (b : Bool). then_some b i.spot.row) c.closed.ensures
          ∙ sym (ends a.edition a.left i.spot.state i.spot.row i.spot.at a.bytes.now (omega (arith, c.loop-spot-test.false)) (p + i.spot.at)) ∙ i.invariant.2 p;
      few = λ n is. omega (arith, i.invariant.1, answered c.closed.result i.spot.row n (sym c.then_some.ensures ∙ is));
    }
