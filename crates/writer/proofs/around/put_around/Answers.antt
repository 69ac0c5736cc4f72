-- `writer::around::put_around` meets its contract: the batch's length is told unless it is too long, and it is written where it has room.
-- Assumes nothing.
use Prim.Native.Nat.{ℕ, ◌≤◌, ◌<◌}
use native.Mathlib.Omega.{arith}
use mathlib.Core.List.{List}
use mathlib.Core.Path.{◌≡◌, ap, subst, ◌∙◌}
use lib.ListN.{length}
use Rattle.std.specs.Prelude.{Option, Some, None}
use Rattle.std.specs.Option.{ok_or}
use Rattle.std.proofs.lemmas.Result.{err_from_is_err_and}
use Rattle.der.specs.declared.refusal.Refusal.TheVariants.{NoRoom, TooLong}
use Rattle.der.specs.meaning.Bounds.{longest}
use Rattle.editions.specs.steps.Reading.{accepted}
use Rattle.editions.specs.steps.Results.{answer_of}
use Rattle.writer.specs.steps.Around.{around, around_answer, around_output}
use Rattle.writer.specs.steps.Inner.{Appended}
use Rattle.writer.proofs.theorems.OctetRuns.{appended_over}
use Rattle.writer.proofs.theorems.AroundContents.{whole_around, around_long, around_roomless, around_written}
use Rattle.writer.proofs.around.put_around.Goals as goal

pub returns-in_err-whole : goal.returns-in_err-whole
returns-in_err-whole c =
    let a = c.args in
    let none : c.whole_around.result ≡ None = grind (arith, c.in_err-whole.ensures.value) in
    let long = rw none at c.whole_around.ensures in
    let p = err_from_is_err_and c.from_residual.result c.from_residual.ensures.1 in
    let why : c.in_err-whole.field-0.0 ≡ record { refusal = TooLong; place = 0 } = grind (arith, c.in_err-whole.ensures.value, none) in
    let told = around_long a.left.now a.right.now a.output.now (subst (λ (n : ℕ). longest < n) (whole_around a.left.now a.right.now) long) in
    rw (p.1, p.2, why) told

pub returns-then-output-whole : goal.returns-then-output-whole
returns-then-output-whole c =
    let a = c.args in
    let size = whole_around a.left.now a.right.now in
    let sized = rw c.in_ok-whole.ensures.ok_part at c.whole_around.ensures in
    around_roomless a.left.now a.right.now a.output.now (omega (arith, size, sized.1)) (omega (arith, size, sized.0, c.if-output-whole.true))

pub put_runs-requires : goal.put_runs-requires
put_runs-requires c =
    let a = c.args in
    let sized = rw c.in_ok-whole.ensures.ok_part at c.whole_around.ensures in
    omega (arith, whole_around a.left.now a.right.now, sized.1)

-- what is written where there is room
told : (left right old new : List ℕ) (r : Option ℕ) → length (around left right) ≤ longest → length (around left right) ≤ length old
    → Appended old 0 (around left right) r new
    → (answer_of (ok_or r (record { refusal = NoRoom; place = 0 })) ≡ around_answer left right old) × (new ≡ around_output left right old)
told left right old new (Some n) fits room placed =
    let count : n ≡ length (around left right) = omega (arith, placed.place) in
    let said = around_written left right old fits room in
    (ap accepted count ∙ said.0, appended_over old (around left right) new n placed ∙ said.1)
told left right old new None fits room long = absurd (omega (arith, long))

pub returns : goal.returns
returns c =
    let a = c.args in
    let size = whole_around a.left.now a.right.now in
    let sized = rw c.in_ok-whole.ensures.ok_part at c.whole_around.ensures in
    rw c.ok_or-2.ensures.value
    (told a.left.now a.right.now a.output.now c.put_runs.new.output c.put_runs.result (omega (arith, size, sized.1))
    (omega (arith, size, sized.0, c.if-output-whole.false)) c.put_runs.ensures)
