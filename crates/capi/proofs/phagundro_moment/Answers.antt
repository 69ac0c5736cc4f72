-- `capi::phagundro_moment` meets its contract: the moment, which fits, or -1. Assumes nothing.
use Prim.Native.Nat.{◌^◌, ◌<◌}
use native.Mathlib.Omega.{arith}
use mathlib.Core.Path.{◌≡◌, sym, ap, ◌∙◌}
use mathlib.Core.Option.{some}
use mir.Facts.{to_z_pos}
use mir.Syntax.{w64}
use Rattle.time.specs.meaning.Validity.{shown_moment}
use Rattle.time.proofs.Laws.{told_some, told_none, shown_range}
use Rattle.capi.specs.OneNumber.{moment_number}
use Rattle.capi.proofs.phagundro_moment.Goals as goal
use Rattle.capi.proofs.phagundro_moment.Goals.{In-Some}

-- the element shows a moment
shown : (c : In-Some) → shown_moment c.args.bytes.now ≡ some c.in-Some.seconds
shown c = told_some _ _ _ c.shown_moment.ensures c.in-Some.is

-- which has 63 bits
few : (c : In-Some) → c.in-Some.seconds < 2 ^ 63
few c = omega (arith, (shown_range _ _ (shown c)).1)

pub overflow_cast-result : goal.overflow_cast-result
overflow_cast-result c = record { sfits = few (goal.at.overflow_cast-result c).In-Some }

pub returns-in-Some : goal.returns-in-Some
unfolding moment_number
returns-in-Some c = to_z_pos w64 (few (goal.at.returns-in-Some c).In-Some) ∙ ap moment_number (sym (shown (goal.at.returns-in-Some c).In-Some))

pub returns-in-None : goal.returns-in-None
unfolding moment_number
returns-in-None c = ap moment_number (sym (told_none _ _ c.shown_moment.ensures c.in-None.is))
