-- `crmf::explain::list`, `element` and `inside` meet their contracts, by one induction on the bytes that are left: an inside has fewer. The
-- list's loop keeps this: the answer from its cursor on is the whole list's. An element's answer is what its line, its inside and its value
-- say. Assumes nothing.
use Prim.Native.Nat.{ℕ, ◌-◌, ◌≤◌}
use mathlib.Core.Path.{◌≡◌, refl, sym, ap, subst, ◌∙◌}
use native.Mathlib.Omega.{arith}
use lib.Seq.{slice, length-slice}
use mathlib.Core.List.{List}
use Rattle.der.proofs.Laws.{InOrder}
use Rattle.der.specs.declared.element.reading.Element.{Element}
use Rattle.der.specs.steps.Reading.{reading_at, tree}
use Rattle.crmf.specs.declared.grammar.element.Fit.{Fit}
use Rattle.std.specs.Prelude.{Result, Ok, None}
use Rattle.crmf.specs.steps.explain.Tally.{Tally, tally_of}
use Rattle.crmf.specs.declared.explain.Break.{Break}
use Rattle.crmf.specs.declared.explain.Cursor.{Cursor}
use Rattle.crmf.specs.steps.grammar.Fitting.{Fitted, FitsAt}
use Rattle.crmf.specs.steps.grammar.Packed.{inside_field}
use Rattle.std.proofs.lemmas.Result.{err_from_is_err_and}
use Rattle.crmf.specs.steps.explain.Walk.{walked_of, line, with_element, Passed}
use Rattle.crmf.specs.steps.explain.Inner.{Lent, inside_walk, walk_from, Passing, continued, Stepped}
use Rattle.crmf.proofs.theorems.lines.WordFields.{inside_at as inside-field}
use Rattle.crmf.proofs.theorems.lines.Fitting.{fitted, fit_order}
use Rattle.crmf.proofs.theorems.explain.Walking.{at_misfit, at_broken, at_passed, at_closed, at_open, inside_free, inside_walked, inside_met}
use Rattle.crmf.proofs.theorems.recognise.CommonForms.{tried_walk, tried_few}
use Rattle.crmf.proofs.explain.+element_inside_list.Goals as goal
use Rattle.crmf.proofs.explain.+element_inside_list.Goals.{element-After-inside, element-In-Some, element-Start, inside-Else-state-eq-FREE, inside-Start, inside-In-Some, list-At-loop-cursor, list-In_ok-cursor, list-Start}

-- With the measure t: what holds before a call of that measure, and before one of a lower.
module _ (t : ℕ) where
  -- what is lent, and the element that fits a line, whose places lie in order
  module _ (c : element-In-Some t) where
    abbrev start : element-Start t
    start = (goal.at.element-In-Some t c).Start

    abbrev fit : Fit
    fit = c.in-Some.fit

    lent : Lent start.args.bytes.now start.args.cursor.at start.args.end start.args.cursor.tally.count
    lent = start.requires.0

    fits : FitsAt (reading_at start.args.bytes.now start.args.cursor.at start.args.end) start.args.cursor.at start.args.cursor.state fit
    fits =
        let read = c.read_at-element in
        subst (λ (x : Element). FitsAt x start.args.cursor.at start.args.cursor.state fit) read.ensures
        c.in-Some.ensures

    ordered : InOrder start.args.cursor.at start.args.end (fitted start.args.bytes.now start.args.cursor.at start.args.end fit)
    ordered = fit_order start.args.bytes.now start.args.cursor.at start.args.end start.args.cursor.state fit fits start.requires.1 lent.inside lent.short

  -- the walk over the element's inside
  module _ (c : element-After-inside t) where
    abbrev fitting : element-In-Some t
    fitting = (goal.at.element-After-inside t c).In-Some

    walked : inside_walk (fits fitting).number (with_element (line (fits fitting).number) (slice (fit fitting).content (fit fitting).end (start fitting).args.bytes.now) (fit fitting).first ((fit fitting).end - (fit fitting).first) (tally_of (start fitting).args.cursor.tally)) (fit fitting).first
        (tree (fit fitting).content (slice (fit fitting).content (fit fitting).end (start fitting).args.bytes.now)) ≡ walked_of c.inside.result
    walked =
        let h = fits fitting in
        inside_met h.number (fit fitting).first ((fit fitting).end - (fit fitting).first) _ _ (tally_of (start fitting).args.cursor.tally) _ (walked_of c.inside.result)
        (c.with_element.ensures.0 h.number h.word) (c.inside.ensures.0 h.number h.word)

  -- an inside that was tried, from the place where its rows are added
  module _ (c : inside-In-Some t) where
    abbrev begun : inside-Start t
    begun = (goal.at.inside-In-Some t c).Start

    abbrev octets : List ℕ
    octets = slice begun.args.fit.content begun.args.fit.end begun.args.bytes.now

    few : c.in-Some.rows ≤ begun.args.fit.end - begun.args.fit.content
    few =
        omega (
          arith,
          tried_few _ begun.args.fit.content c.in-Some.rows octets c.count_part.ensures c.in-Some.is,
          length-slice begun.args.fit.content begun.args.fit.end begun.args.bytes.now begun.requires.inside,
        )

  -- the step from the loop's cursor on, in the whole list's walk
  module _ (c : list-At-loop-cursor t) where
    abbrev lot : list-Start t
    lot = (goal.at.list-At-loop-cursor t c).Start

    abbrev Next : Result Cursor Break → Type 0
    Next = Stepped lot.args.bytes.now c.loop-cursor.cursor lot.args.end

    continues : {r : Result Cursor Break} → Next r → continued lot.args.bytes.now lot.args.end lot.args.around r ≡ walk_from lot.args.bytes.now lot.args.start lot.args.end lot.args.around
    continues g = ◌∙◌ {b = walk_from lot.args.bytes.now c.loop-cursor.cursor lot.args.end lot.args.around} (g.same lot.args.around) c.loop-cursor.invariant.3

  -- a step that goes on
  module _ (c : list-In_ok-cursor t) where
    abbrev looping : list-At-loop-cursor t
    looping = (goal.at.list-In_ok-cursor t c).At-loop-cursor

    goes : Next looping (Ok c.in_ok-cursor.cursor)
    goes = c.in_ok-cursor.ensures

pub element-returns-in_default : goal.element-returns-in_default
element-returns-in_default t c =
    let begun = (goal.at.element-returns-in_default t c).Start in
    let a = begun.args in
    let l = begun.requires.0 in
    at_misfit a.bytes.now a.cursor a.end begun.requires.1 l.inside l.short
    (subst (λ (x : Element). Fitted x a.cursor.at a.cursor.state None) c.read_at-element.ensures c.in_default.ensures)

pub element-with_element-requires : goal.element-with_element-requires
element-with_element-requires t c =
    let d = (goal.at.element-with_element-requires t c).In-Some in
    (omega (arith, ((fits t) d).first, ((ordered t) d).headed), ((ordered t) d).ordered, omega (arith, ((ordered t) d).within, ((lent t) d).inside), omega (arith, (lent t) d, ((start t) d).requires.1), (((fits t) d).number, ((fits t) d).word))

pub element-inside-requires : goal.element-inside-requires
element-inside-requires t c =
    let d = (goal.at.element-inside-requires t c).In-Some in
    let o = (ordered t) d in
    let l = (lent t) d in (
      omega (arith, ((start t) d).decreases, o.headed, o.ordered, o.within),
      record {
        short = l.short;
        order = o.ordered;
        inside = omega (arith, o.within, l.inside);
        few = omega (arith, c.with_element.ensures.1, l.few, o.headed);
      },
    )

pub element-after_inside-requires : goal.element-after_inside-requires
element-after_inside-requires t c =
    let d = (goal.at.element-after_inside-requires t c).In-Some in
    (((ordered t) d).ordered, omega (arith, ((ordered t) d).within, ((lent t) d).inside))

pub element-returns-in_err-more : goal.element-returns-in_err-more
element-returns-in_err-more t c =
    let i = (goal.at.element-returns-in_err-more t c).After-inside in
    let d = (fitting t) i in
    let a = ((start t) d).args in
    let p = err_from_is_err_and c.from_residual.result c.from_residual.ensures.1 in
    rw (p.1, p.2)
    (at_broken a.bytes.now a.cursor a.end ((start t) d).requires.1 ((lent t) d).inside ((lent t) d).short ((fit t) d) ((fits t) d) _ _ _
    ((walked t) i ∙ ap walked_of c.in_err-more.was))

pub element-returns : goal.element-returns
element-returns t c =
    let i = (goal.at.element-returns t c).After-inside in
    let d = (fitting t) i in
    let a = ((start t) d).args in
    let passed = c.in_ok-more in
    at_passed a.bytes.now a.cursor a.end ((start t) d).requires.1 ((lent t) d).inside ((lent t) d).short ((fit t) d) ((fits t) d)
    passed.more ((walked t) i ∙ ap walked_of passed.was) (subst (Passing ((fit t) d).end) passed.was i.inside.ensures.1)
    c.after_inside.result (c.after_inside.ensures ((fits t) d).number ((fits t) d).word)

pub inside-returns-then-state-eq-FREE : goal.inside-returns-then-state-eq-FREE
inside-returns-then-state-eq-FREE t c =
    let begun = (goal.at.inside-returns-then-state-eq-FREE t c).Start in
    let a = begun.args in (
      λ k e. inside_free k _ (c.inside_of-state.ensures ∙ ap inside_field e ∙ inside-field k) (tally_of a.tally) a.fit.first _ c.if-state-eq-FREE.true,
      omega (arith, begun.requires.few, begun.requires.order),
    )

pub inside-count_part-requires : goal.inside-count_part-requires
inside-count_part-requires t c = let l = c.requires in (l.order, l.inside, l.short)

pub inside-with_rows-requires : goal.inside-with_rows-requires
inside-with_rows-requires t c = let l = ((begun t) c).requires in (omega (arith, l.few, l.order, l.inside, l.short), omega (arith, (few t) c, l.inside, l.short))

pub inside-returns-in-Some : goal.inside-returns-in-Some
inside-returns-in-Some t c =
    let d = (goal.at.inside-returns-in-Some t c).In-Some in
    let a = ((begun t) d).args in
    let known = (goal.at.inside-In-Some t d).Else-state-eq-FREE in (
      λ k e. inside_walked k _ (known.inside_of-state.ensures ∙ ap inside_field e ∙ inside-field k) (tally_of a.tally) a.fit.first
          (tree a.fit.content ((octets t) d)) known.if-state-eq-FREE.false (Passed (tally_of c.with_rows.result))
          (ap Passed c.with_rows.ensures
          ∙ tried_walk _ a.fit.content d.in-Some.rows ((octets t) d) d.count_part.ensures d.in-Some.is (tally_of a.tally) a.fit.first),
      omega (arith, ap (λ (s : Tally). s.count) c.with_rows.ensures, (few t) d, ((begun t) d).requires.few, ((begun t) d).requires.order),
    )

pub inside-list-requires : goal.inside-list-requires
inside-list-requires t c = let start = (goal.at.inside-list-requires t c).Start in (omega (arith, start.decreases), start.requires)

pub inside-returns : goal.inside-returns
inside-returns t c =
    let known = (goal.at.inside-returns t c).Else-state-eq-FREE in
    let a = known.args in (
      λ k e. inside_walked k _ (known.inside_of-state.ensures ∙ ap inside_field e ∙ inside-field k) (tally_of a.tally) a.fit.first
          (tree a.fit.content (slice a.fit.content a.fit.end a.bytes.now))
          known.if-state-eq-FREE.false (walked_of c.list.result) c.list.ensures.0,
      c.list.ensures.1,
    )

pub list-loop-cursor-init : goal.list-loop-cursor-init
list-loop-cursor-init t c = (omega arith, c.requires.order, c.requires.few, refl)

pub list-element-requires : goal.list-element-requires
list-element-requires t c =
    let looping = (goal.at.list-element-requires t c).At-loop-cursor in
    let l = ((lot t) looping).requires in
    let i = looping.loop-cursor.invariant in (
      omega (arith, ((lot t) looping).decreases, i.0, i.1),
      (record { short = l.short; order = i.1; inside = l.inside; few = i.2 }, c.loop-cursor-test.true),
    )

pub list-loop-cursor-smaller : goal.list-loop-cursor-smaller
list-loop-cursor-smaller t c = omega (arith, ((goes t) (goal.at.list-loop-cursor-smaller t c).In_ok-cursor).forward, c.loop-cursor-test.true)

pub list-loop-cursor-preserved : goal.list-loop-cursor-preserved
list-loop-cursor-preserved t c =
    let g = (goes t) (goal.at.list-loop-cursor-preserved t c).In_ok-cursor in
    let d = (looping t) (goal.at.list-loop-cursor-preserved t c).In_ok-cursor in
    (omega (arith, d.loop-cursor.invariant.0, g.forward), g.forward.1, g.forward.2, (continues t) d g)

pub list-returns-in_err-cursor : goal.list-returns-in_err-cursor
list-returns-in_err-cursor t c =
    let d = (goal.at.list-returns-in_err-cursor t c).At-loop-cursor in
    let p = err_from_is_err_and c.from_residual.result c.from_residual.ensures.1 in
    rw (p.1, p.2) ((continues t) d c.in_err-cursor.ensures, tt)

pub list-returns-then-closed : goal.list-returns-then-closed
list-returns-then-closed t c =
    let d = (goal.at.list-returns-then-closed t c).At-loop-cursor in
    let a = ((lot t) d).args in
    let i = d.loop-cursor.invariant in (
      at_closed a.bytes.now d.loop-cursor.cursor a.end (omega (arith, i.1, c.loop-cursor-test.false)) a.around (sym c.closed.ensures ∙ c.if-closed.true) ∙ i.3,
      omega (arith, i.1, i.2),
    )

pub list-returns : goal.list-returns
list-returns t c =
    let d = (goal.at.list-returns t c).At-loop-cursor in
    let a = ((lot t) d).args in
    let i = d.loop-cursor.invariant in (
      at_open a.bytes.now d.loop-cursor.cursor a.end (omega (arith, i.1, c.loop-cursor-test.false)) a.around (sym c.closed.ensures ∙ c.if-closed.false) ∙ i.3,
      tt,
    )
