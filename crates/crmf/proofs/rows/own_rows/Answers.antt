-- `crmf::rows::own_rows` meets its contract: the two rows are taken one after the other. Assumes nothing.
use Prim.Native.Nat.{ℕ, ◌+◌}
use mathlib.Core.Path.{◌≡◌, ap₂, subst}
use mathlib.Core.List.{List, ◌++◌}
use native.Mathlib.Omega.{arith}
use Rattle.std.specs.Prelude.{Option, None}
use Rattle.crmf.specs.steps.explain.Walk.{line}
use Rattle.crmf.specs.meaning.Rows.{Row}
use Rattle.crmf.specs.steps.rows.Fill.{row_of, fit_extent, own_rows}
use Rattle.crmf.specs.steps.rows.Take.{Took}
use Rattle.crmf.proofs.theorems.rows.Taking.{took_two, took_lost, took_count, took_few}
use Rattle.crmf.proofs.theorems.rows.Writing.{one_at_most}
use Rattle.crmf.proofs.rows.own_rows.Goals as goal

pub returns-in_err-next : goal.returns-in_err-next
returns-in_err-next g c =
    let a = c.args in
    let takes = g.T.Taker.takes a.taker.now in
    let item = row_of c.item_entry.result in
    let lost = subst (λ (r : Option ℕ). Took takes a.row item a.out.now r c.hand.new.out) c.in_err-next.was c.hand.ensures in
    rw c.from_residual.ensures (
      λ k e.
          -- the element's own row doesn't matter
          took_lost takes a.row _ _ a.out.now c.hand.new.out
          (subst (λ (l : List Row). Took takes a.row l a.out.now None c.hand.new.out) (c.item_entry.ensures k e) lost),
      tt,
    )

pub hand-requires-2 : goal.hand-requires-2
hand-requires-2 g c =
    let a = c.args in
    let takes = g.T.Taker.takes a.taker.now in
    let item = c.item_entry.result in
    let mine = subst (λ (r : Option ℕ). Took takes a.row (row_of item) a.out.now r c.hand.new.out) c.in_ok-next.was c.hand.ensures in
    omega (arith, took_count takes a.row c.in_ok-next.next (row_of item) a.out.now c.hand.new.out mine, one_at_most item, c.requires.1)

pub returns : goal.returns
returns g c =
    let a = c.args in
    let takes = g.T.Taker.takes a.taker.now in
    let item = c.item_entry.result in
    let own = c.own_entry.result in
    let next = c.in_ok-next.next in
    let mid = c.hand.new.out in
    let mine = subst (λ (r : Option ℕ). Took takes a.row (row_of item) a.out.now r mid) c.in_ok-next.was c.hand.ensures in (
      λ k e.
          let rows : row_of item ++ row_of own ≡ own_rows (line k) (fit_extent a.fit) a.row a.around =
          ap₂ (λ (l m : List Row). l ++ m) (c.item_entry.ensures k e) (c.own_entry.ensures k e) in
          subst (λ (l : List Row). Took takes a.row l a.out.now c.hand-2.result c.hand-2.new.out) rows
          (took_two takes a.row next (row_of item) (row_of own) a.out.now mid c.hand-2.result c.hand-2.new.out mine c.hand-2.ensures),
      took_few takes next (a.row + 2) (row_of own) mid c.hand-2.result c.hand-2.new.out
          (omega (arith, took_count takes a.row next (row_of item) a.out.now mid mine, one_at_most item, one_at_most own)) c.hand-2.ensures,
    )
