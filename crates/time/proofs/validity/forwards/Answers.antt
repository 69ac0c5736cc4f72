-- `time::validity::forwards` meets its contract: notBefore's element ends where its length octet says, and notAfter's comes after it. Assumes nothing.
use Prim.Native.Nat.{ℕ, ◌+◌}
use mathlib.Core.Path.{◌≡◌, sym, ap, ◌∙◌}
use native.Mathlib.Omega.{arith}
use lib.ListN.{get_or, take, drop}
use Rattle.time.specs.meaning.Validity.{shown_moment}
use Rattle.time.proofs.theorems.Telling.{told_some, told_none}
use Rattle.time.proofs.theorems.Validities.{forwards_one, forwards_first, forwards_second, forwards_both}
use Rattle.time.proofs.validity.forwards.Goals as goal
use Rattle.time.proofs.validity.forwards.Goals.{In-Some}

pub returns-in_default : goal.returns-in_default
returns-in_default c = sym (forwards_one c.args.content.now (omega (arith, c.in_default.len_below)))

pub returns-in_default-split_at_checked : goal.returns-in_default-split_at_checked
returns-in_default-split_at_checked c =
    sym (forwards_one c.args.content.now (omega (arith, c.in_default-split_at_checked.ensures.cases)))

-- the two parts are the definition's
first : (c : In-Some) → let s = c.args.content.now in c.in-Some.first.now ≡ take (2 + get_or s 1 0) s
first c = c.in-Some.ensures.cases.1 ∙ ap (λ (n : ℕ). take (2 + n) c.args.content.now) c.from.ensures

second : (c : In-Some) → let s = c.args.content.now in c.in-Some.second.now ≡ drop (2 + get_or s 1 0) s
second c = c.in-Some.ensures.cases.2 ∙ ap (λ (n : ℕ). drop (2 + n) c.args.content.now) c.from.ensures

pub returns-in_default-shown_moment : goal.returns-in_default-shown_moment
returns-in_default-shown_moment c =
    let parts = (goal.at.returns-in_default-shown_moment c).In-Some in
    sym (forwards_first c.args.content.now (sym (ap shown_moment (first parts)) ∙ told_none _ _ c.shown_moment.ensures c.in_default-shown_moment.is))

pub returns-in_default-shown_moment-2 : goal.returns-in_default-shown_moment-2
returns-in_default-shown_moment-2 c =
    let parts = (goal.at.returns-in_default-shown_moment-2 c).In-Some in
    sym (forwards_second c.args.content.now _ (sym (ap shown_moment (first parts)) ∙ told_some _ _ _ c.shown_moment.ensures c.in-Some-shown_moment.is)
    (sym (ap shown_moment (second parts)) ∙ told_none _ _ c.shown_moment-2.ensures c.in_default-shown_moment-2.is))

pub returns : goal.returns
returns c =
    let parts = (goal.at.returns c).In-Some in
    sym (forwards_both c.args.content.now _ _ (sym (ap shown_moment (first parts)) ∙ told_some _ _ _ c.shown_moment.ensures c.in-Some-shown_moment.is)
    (sym (ap shown_moment (second parts)) ∙ told_some _ _ _ c.shown_moment-2.ensures c.in-Some-shown_moment-2.is))
