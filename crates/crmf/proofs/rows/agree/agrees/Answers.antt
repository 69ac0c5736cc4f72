-- `crmf::rows::agree::agrees` meets its contract: the first numbers that differ decide. Assumes nothing.
use Prim.Native.Nat.{ℕ}
use lib.Dec.{eqb}
use mathlib.Core.Path.{sym, ap₂, ◌∙◌}
use mathlib.Core.Bool.{◌&&◌}
use Rattle.crmf.specs.steps.rows.Agree.{row_from}
use Rattle.crmf.specs.steps.rows.Fill.{entry_row}
use Rattle.crmf.proofs.theorems.rows.Comparing.{other_kind, other_parent, same_places, same_container, same_leaf}
use Rattle.crmf.proofs.rows.agree.agrees.Goals as goal
use Rattle.crmf.proofs.rows.agree.agrees.Goals.{After-container, After-header_length, Else-container, Else-draft-at, Else-draft-at-2, Else-in_place, Then-in_place}

pub returns-then-draft-at : goal.returns-then-draft-at
returns-then-draft-at c =
    let a = c.args in
    other_kind (row_from a.draft.now a.at) (entry_row a.new) a.in_place c.if-draft-at.true

pub returns-then-draft-at-2 : goal.returns-then-draft-at-2
returns-then-draft-at-2 c =
    let kind = (goal.at.returns-then-draft-at-2 c).Else-draft-at in
    let a = kind.args in
    other_parent (row_from a.draft.now a.at) (entry_row a.new) kind.if-draft-at.false a.in_place c.if-draft-at-2.true

pub returns-then-in_place : goal.returns-then-in_place
returns-then-in_place c =
    let placed = (goal.at.returns-then-in_place c).Then-in_place in
    let parent = (goal.at.Then-in_place placed).Else-draft-at-2 in
    let kind = (goal.at.Else-draft-at-2 parent).Else-draft-at in
    let a = kind.args in
    same_places (row_from a.draft.now a.at) (entry_row a.new) kind.if-draft-at.false parent.if-draft-at-2.false a.in_place placed.if-in_place.true

pub returns-then-container : goal.returns-then-container
returns-then-container c =
    let bears = (goal.at.returns-then-container c).After-container in
    let moved = (goal.at.After-container bears).Else-in_place in
    let parent = (goal.at.Else-in_place moved).Else-draft-at-2 in
    let kind = (goal.at.Else-draft-at-2 parent).Else-draft-at in
    let a = kind.args in
    same_container (row_from a.draft.now a.at) (entry_row a.new) kind.if-draft-at.false parent.if-draft-at-2.false a.in_place moved.if-in_place.false
    (sym bears.container.ensures ∙ c.if-container.true)

pub returns : goal.returns
returns c =
    let mine = (goal.at.returns c).After-header_length in
    let leaf = (goal.at.After-header_length mine).Else-container in
    let bears = (goal.at.Else-container leaf).After-container in
    let moved = (goal.at.After-container bears).Else-in_place in
    let parent = (goal.at.Else-in_place moved).Else-draft-at-2 in
    let kind = (goal.at.Else-draft-at-2 parent).Else-draft-at in
    let a = kind.args in
    let r = row_from a.draft.now a.at in
    ap₂ (λ (i j : ℕ). eqb r.whole a.new.whole && eqb i j) mine.header_length.ensures c.header_length-2.ensures
    ∙ same_leaf r (entry_row a.new) kind.if-draft-at.false parent.if-draft-at-2.false a.in_place moved.if-in_place.false
    (sym bears.container.ensures ∙ leaf.if-container.false)
