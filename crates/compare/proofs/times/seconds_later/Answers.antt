-- `compare::times::seconds_later` meets its contract: no times, an element that shows no moment, or two moments. Assumes nothing.
use mathlib.Core.Path.{◌≡◌, sym, ◌∙◌}
use mathlib.Core.Bool.{true}
use mathlib.Core.Option.{some}
use mir.Facts.{to_z-of_z}
use mir.Syntax.{w64}
use Rattle.compare.specs.meaning.Times.{is_time_kind}
use Rattle.time.specs.meaning.Validity.{shown_moment}
use Rattle.time.proofs.Laws.{told_some, told_none, shown_range}
use Rattle.compare.proofs.theorems.LeafSeconds.{seconds_other, seconds_times, seconds_no_first, seconds_no_second}
use Rattle.compare.proofs.times.seconds_later.Goals as goal
use Rattle.compare.proofs.times.seconds_later.Goals.{Else-not-is_time, In-Some-Some}

-- the leaves are times
times : (c : Else-not-is_time) → is_time_kind c.args.kind ≡ true
times c = sym c.is_time.ensures ∙ c.if-not-is_time.false

-- the first shows a moment, and so does the second
first_shown : (c : In-Some-Some) → shown_moment c.args.first.now ≡ some c.in-Some-Some.one
first_shown c = told_some _ _ _ c.shown_moment.ensures c.in-Some-Some.is-0

second_shown : (c : In-Some-Some) → shown_moment c.args.second.now ≡ some c.in-Some-Some.other
second_shown c = told_some _ _ _ c.shown_moment-2.ensures c.in-Some-Some.is-1

pub returns-then-not-is_time : goal.returns-then-not-is_time
returns-then-not-is_time c =
    let a = c.args in
    sym (seconds_other a.kind a.first.now a.second.now (sym c.is_time.ensures ∙ c.if-not-is_time.true))

pub less-requires : goal.less-requires
less-requires c =
    let both = (goal.at.less-requires c).In-Some-Some in
    ((shown_range _ _ (second_shown both)).1, (shown_range _ _ (first_shown both)).1)

pub returns-in-Some-Some : goal.returns-in-Some-Some
returns-in-Some-Some c =
    let both = (goal.at.returns-in-Some-Some c).In-Some-Some in
    let a = c.args in
    to_z-of_z {w = w64} (record { sfits = c.less.type_inv })
    ∙ c.less.ensures
    ∙ sym (seconds_times a.kind a.first.now a.second.now (times (goal.at.returns-in-Some-Some c).Else-not-is_time) (first_shown both) (second_shown both))

pub returns-in_default : goal.returns-in_default
returns-in_default c =
    let a = c.args in
    sym (seconds_no_second a.kind a.first.now a.second.now (times (goal.at.returns-in_default c).Else-not-is_time) (told_some _ _ _ c.shown_moment.ensures c.in_default.is-0) (told_none _ _ c.shown_moment-2.ensures c.in_default.is-1))

pub returns-in_default-2 : goal.returns-in_default-2
returns-in_default-2 c =
    let a = c.args in
    sym (seconds_no_first a.kind a.first.now a.second.now (times (goal.at.returns-in_default-2 c).Else-not-is_time) (told_none _ _ c.shown_moment.ensures c.in_default.is-0))
