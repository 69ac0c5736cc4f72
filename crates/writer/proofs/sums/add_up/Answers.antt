-- `writer::sums::add_up` meets its contract. The loop's invariant: the rows from `i` on have settled their sums. Assumes nothing.
use Prim.Native.Nat.{ℕ, suc, ◌-◌}
use mathlib.Core.List.{List, ◌∷◌}
use mathlib.Core.Path.{◌≡◌, sym, ap, subst, ◌∙◌}
use lib.ListN.{drop}
use Rattle.crmf.specs.meaning.Rows.{Row}
use Rattle.crmf.specs.steps.rows.Agree.{draft_rows}
use Rattle.writer.specs.steps.Inner.{row_of}
use Rattle.writer.proofs.theorems.AddingUp.{Settled, settled_last, settled_first, settled_before, settled_next, settled_stops, sum_bound}
use native.Mathlib.Omega.{arith}
use Rattle.writer.proofs.sums.add_up.Goals as goal
use Rattle.writer.proofs.sums.add_up.Goals.{After-from-row}

pub loop-i-init : goal.loop-i-init
loop-i-init c =
    let a = c.args in
    let rs = draft_rows a.draft.now.numbers.now in
    subst (λ (n : ℕ). Settled a.draft.now.bytes.now rs n a.table.now a.table.now) (sym c.rows-rows.ensures.count) (settled_last a.draft.now.bytes.now rs a.table.now c.requires)

-- the row of this turn, and what those after it have settled
module _ (c : After-from-row) where
  abbrev rows : List Row
  rows = draft_rows c.args.draft.now.numbers.now

  abbrev i : ℕ
  i = c.loop-i.i - 1

  settled : Settled c.args.draft.now.bytes.now rows (suc i) c.args.table.now c.loop-i.table
  settled = settled_before c.args.draft.now.bytes.now rows c.loop-i.i c.args.table.now c.loop-i.table c.loop-i-test.true c.loop-i.invariant

  cut : drop i rows ≡ row_of c.from-row.result ∷ drop (suc i) rows
  cut = c.rows-rows.ensures.each i (omega (arith, c.loop-i-test.true, c.loop-i.auto.i)) ∙ ap (λ (r : Row). r ∷ drop (suc i) rows) (sym c.from-row.ensures)

pub whole_of-requires : goal.whole_of-requires
whole_of-requires c =
    let a = c.args in
    let f = (goal.at.whole_of-requires c).After-from-row in
    sum_bound a.draft.now.bytes.now (rows f) (i f) a.table.now c.loop-i.table (settled f) (i f) (omega arith)

pub returns-in_default : goal.returns-in_default
returns-in_default c =
    let a = c.args in
    let f = (goal.at.returns-in_default c).After-from-row in
    settled_stops a.draft.now.bytes.now (rows f) (i f) a.table.now c.loop-i.table (settled f) (row_of c.from-row.result) (cut f) c.in_default.ensures c.loop-i.table

pub add-requires : goal.add-requires
add-requires c =
    let a = c.args in
    let f = (goal.at.add-requires c).After-from-row in
    let s = settled f in
    (omega (arith, s.room, s.below), c.in-Some.ensures.2, λ k before. sum_bound a.draft.now.bytes.now (rows f) (i f) a.table.now c.loop-i.table s k (omega arith))

pub loop-i-preserved : goal.loop-i-preserved
loop-i-preserved c =
    let a = c.args in
    let f = (goal.at.loop-i-preserved c).After-from-row in
    settled_next a.draft.now.bytes.now (rows f) (i f) a.table.now c.loop-i.table (settled f) (row_of c.from-row.result) (cut f) c.in-Some.whole c.in-Some.ensures
    c.add.new.table c.add.auto.table c.add.ensures

pub returns : goal.returns
returns c = let a = c.args in settled_first a.draft.now.bytes.now (draft_rows a.draft.now.numbers.now) c.loop-i.i a.table.now c.loop-i.table c.loop-i-test.false c.loop-i.invariant
