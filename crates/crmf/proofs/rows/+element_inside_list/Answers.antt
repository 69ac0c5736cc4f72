-- `crmf::rows::list`, `element` and `inside` meet their contracts, by one induction on the bytes that are left: an inside has fewer. With the rows
-- from the list's spot on always all from its start on are taken. Assumes nothing.
use Prim.Native.Nat.{ℕ, ◌*◌, ◌+◌, ◌≤◌, ◌<◌}
use mathlib.Core.Path.{◌≡◌, sym, ap, subst, ◌∙◌}
use mathlib.Core.Bool.{true}
use mathlib.Core.List.{List}
use native.Mathlib.Omega.{arith}
use Rattle.std.specs.Prelude.{Option, Some, None, IfSome}
use Rattle.der.proofs.Laws.{InOrder}
use Rattle.der.specs.declared.element.reading.Element.{Element}
use Rattle.der.specs.steps.Reading.{reading_at}
use Rattle.crmf.specs.declared.grammar.element.Fit.{Fit}
use Rattle.crmf.specs.declared.rows.Spot.{Spot}
use Rattle.crmf.specs.meaning.Rows.{Row}
use Rattle.crmf.specs.steps.grammar.Fitting.{Fitted, FitsAt}
use Rattle.crmf.specs.steps.grammar.Packed.{inside_field}
use Rattle.crmf.specs.steps.explain.Walk.{line}
use Rattle.crmf.specs.steps.rows.Take.{Took, Inner, Lent}
use Rattle.crmf.specs.steps.rows.Fill.{fit_extent, rowless, own_rows, around_inside}
use Rattle.crmf.proofs.theorems.lines.WordFields.{inside_at as inside-field}
use Rattle.crmf.proofs.theorems.lines.Fitting.{fitted, fit_order}
use Rattle.crmf.proofs.theorems.rows.Taking.{took_none, step_misfit, step_other, step_inner_other, step_on}
use Rattle.crmf.proofs.theorems.rows.Rowless.{inner_none, inside_some}
use Rattle.crmf.proofs.theorems.rows.Showing.{shown_end, held_inner}
use Rattle.crmf.proofs.rows.+element_inside_list.Goals as goal

-- the element at a spot that fits a line, whose places lie in order
module _ {bytes : List ℕ} {spot : Spot} {end : ℕ} {fit : Fit} {element : Element} (lent : Lent bytes spot.at end spot.row) (some : spot.at < end)
    (read : element ≡ reading_at bytes spot.at end) (found : Fitted element spot.at spot.state (Some fit)) where
  fits : FitsAt (reading_at bytes spot.at end) spot.at spot.state fit
  fits = subst (λ (x : Element). FitsAt x spot.at spot.state fit) read found

  ordered : InOrder spot.at end (fitted bytes spot.at end fit)
  ordered = fit_order bytes spot.at end spot.state fit fits some lent.inside lent.short

  placed : fit.first ≤ fit.end
  placed = omega (arith, fits.first, ordered.headed, ordered.ordered)

pub element-returns-in_default : goal.element-returns-in_default
element-returns-in_default g t c =
    let a = c.args in
    let l = c.requires.0 in
    step_misfit (g.T.Taker.takes a.taker.now) a.bytes.now a.spot a.end c.requires.1 l.inside l.short a.around a.out.now l.few
    (subst (λ (x : Element). Fitted x a.spot.at a.spot.state None) c.read_at-element.ensures c.in_default.ensures)

pub element-own_rows-requires : goal.element-own_rows-requires
element-own_rows-requires g t c =
    let l = c.requires.0 in
    (placed l c.requires.1 c.read_at-element.ensures c.in-Some.ensures, omega (arith, l.few, l.order, l.inside, l.short))

pub element-returns-in_err-next : goal.element-returns-in_err-next
element-returns-in_err-next g t c =
    let a = c.args in
    let l = c.requires.0 in
    let h = fits l c.requires.1 c.read_at-element.ensures c.in-Some.ensures in
    let takes = g.T.Taker.takes a.taker.now in
    let fit = c.in-Some.fit in
    rw c.from_residual.ensures
    (step_other takes a.bytes.now a.spot a.end c.requires.1 l.inside l.short a.around a.out.now fit h c.own_rows.new.out
    (subst (λ (r : Option ℕ). Took takes a.spot.row (own_rows (line h.number) (fit_extent fit) a.spot.row a.around) a.out.now r c.own_rows.new.out)
    c.in_err-next.was (c.own_rows.ensures.0 h.number h.word)))

pub element-inside-requires : goal.element-inside-requires
element-inside-requires g t c =
    let l = c.requires.0 in
    let o = ordered l c.requires.1 c.read_at-element.ensures c.in-Some.ensures in
    let own = subst (λ (r : Option ℕ). IfSome r (λ next. next ≤ c.args.spot.row + 2)) c.in_ok-next.was c.own_rows.ensures.1 in
    λ κs outlives. (
      omega (arith, c.decreases, o.headed, o.ordered, o.within),
      (
        outlives,
        (
          record {
            short = l.short;
            order = o.ordered;
            inside = omega (arith, o.within, l.inside);
            few = omega (arith, own, l.few, o.headed);
          },
          placed l c.requires.1 c.read_at-element.ensures c.in-Some.ensures,
          omega (arith, l.few, l.order, l.inside, l.short),
        ),
      ),
    )

pub element-returns-in_err-row : goal.element-returns-in_err-row
element-returns-in_err-row g t c =
    let a = c.args in
    let l = c.requires.0 in
    let h = fits l c.requires.1 c.read_at-element.ensures c.in-Some.ensures in
    let takes = g.T.Taker.takes a.taker.now in
    let fit = c.in-Some.fit in
    rw c.from_residual-in_err-row.ensures
    (step_inner_other takes a.bytes.now a.spot a.end c.requires.1 l.inside l.short a.around a.out.now fit h c.in_ok-next.next c.own_rows.new.out
    (subst (λ (r : Option ℕ). Took takes a.spot.row (own_rows (line h.number) (fit_extent fit) a.spot.row a.around) a.out.now r c.own_rows.new.out)
    c.in_ok-next.was (c.own_rows.ensures.0 h.number h.word))
    c.inside.new.out
    (subst (λ (r : Option ℕ). Inner takes h.number a.bytes.now fit (record { up = a.around.up; row = a.spot.row; next = c.in_ok-next.next }) c.own_rows.new.out r c.inside.new.out)
    c.in_err-row.was (c.inside.ensures.0 h.number h.word)))

pub element-onward-requires : goal.element-onward-requires
element-onward-requires g t c =
    let l = c.requires.0 in
    let o = ordered l c.requires.1 c.read_at-element.ensures c.in-Some.ensures in
    (o.ordered, omega (arith, o.within, l.inside))

pub element-returns : goal.element-returns
element-returns g t c =
    let a = c.args in
    let l = c.requires.0 in
    let h = fits l c.requires.1 c.read_at-element.ensures c.in-Some.ensures in
    let takes = g.T.Taker.takes a.taker.now in
    let fit = c.in-Some.fit in
    step_on takes a.bytes.now a.spot a.end c.requires.1 l.inside l.short a.around a.out.now fit h c.in_ok-next.next c.own_rows.new.out
    (subst (λ (r : Option ℕ). Took takes a.spot.row (own_rows (line h.number) (fit_extent fit) a.spot.row a.around) a.out.now r c.own_rows.new.out)
    c.in_ok-next.was (c.own_rows.ensures.0 h.number h.word))
    c.in_ok-row.row c.onward.result c.inside.new.out
    (subst (λ (r : Option ℕ). Inner takes h.number a.bytes.now fit (record { up = a.around.up; row = a.spot.row; next = c.in_ok-next.next }) c.own_rows.new.out r c.inside.new.out)
    c.in_ok-row.was (c.inside.ensures.0 h.number h.word))
    (c.onward.ensures h.number h.word)
    (subst (λ (r : Option ℕ). IfSome r (λ next. next ≤ 2 * fit.end)) c.in_ok-row.was c.inside.ensures.1)

pub inside-returns-then-rowless : goal.inside-returns-then-rowless
inside-returns-then-rowless g t c =
    let a = c.args in
    let takes = g.T.Taker.takes a.taker.now in (
      λ k e.
          let starts : c.inside_of-state.result ≡ (line k).inside = c.inside_of-state.ensures ∙ ap inside_field e ∙ inside-field k in
          let none : rowless (line k).inside ≡ true = ap rowless (sym starts) ∙ sym c.rowless.ensures ∙ c.if-rowless.true in
          subst (λ (l : List Row). Took takes a.numbers.next l a.out.now (Some a.numbers.next) a.out.now)
          (sym (inner_none k a.bytes.now a.fit.content a.fit.end a.numbers.next (around_inside (line k) a.fit a.numbers) none))
          (took_none takes a.numbers.next a.out.now),
      omega (arith, c.requires.0.few, c.requires.0.order),
    )

pub inside-returns : goal.inside-returns
inside-returns g t c =
    let a = c.args in
    let takes = g.T.Taker.takes a.taker.now in (
      λ k e.
          let starts : c.inside_of-state.result ≡ (line k).inside = c.inside_of-state.ensures ∙ ap inside_field e ∙ inside-field k in
          let some = inside_some (line k).inside (ap rowless (sym starts) ∙ sym c.rowless.ensures ∙ c.if-rowless.false) in
          subst (λ (l : List Row). Took takes a.numbers.next l a.out.now c.list.result c.list.new.out)
          (held_inner k a.bytes.now a.fit a.numbers _ _ starts (c.row_above.ensures k e) some) c.list.ensures.took,
      c.list.ensures.few,
    )

pub list-returns : goal.list-returns
list-returns g t c =
    let a = c.args in
    let takes = g.T.Taker.takes a.taker.now in
    let i = c.loop-spot.invariant in
    let spot = c.loop-spot.spot in
    let done : spot.at ≡ a.end = omega (arith, i.2, c.loop-spot-test.false) in
    record {
      took = i.0 (Some spot.row) c.loop-spot.out
          (subst (λ (l : List Row). Took takes spot.row l c.loop-spot.out (Some spot.row) c.loop-spot.out) (sym (shown_end a.bytes.now spot a.end a.around done))
          (took_none takes spot.row c.loop-spot.out));
      few = omega (arith, i.3, i.2);
    }
