-- `writer::answers::deliver` meets its contract: what is written from the first place on stands over the output's first octets. Assumes nothing.
use borrow.Author.Tests.{le-leb, lt-leb}
use lib.ListN.{length}
use native.Mathlib.Omega.{arith}
use mathlib.Core.List.{List}
use mathlib.Core.Path.{◌≡◌, refl, sym, ap, ◌∙◌}
use Prim.Native.Nat.{ℕ}
use Rattle.std.specs.Prelude.{Option, Some, None}
use Rattle.std.specs.Option.{ok_or}
use Rattle.der.specs.declared.refusal.Refusal.TheVariants.{NoRoom}
use Rattle.editions.specs.steps.Reading.{accepted}
use Rattle.editions.specs.steps.Results.{answer_of}
use Rattle.writer.specs.steps.Inner.{Appended}
use Rattle.writer.specs.steps.Writing.{delivered_answer, delivered_output}
use Rattle.writer.proofs.theorems.OctetRuns.{appended_over}
use Rattle.writer.proofs.answers.deliver.Goals as goal

-- what is delivered, by whether there is room
told : (batch old new : List ℕ) (r : Option ℕ) → Appended old 0 batch r new → (r ≡ None → new ≡ old)
    → (answer_of (ok_or r (record { refusal = NoRoom; place = 0 })) ≡ delivered_answer batch old) × (new ≡ delivered_output batch old)
told batch old new (Some n) placed stays =
    let count : n ≡ length batch = omega (arith, placed.place) in
    let fits = le-leb (length batch) (length old) (omega (arith, placed.place, placed.room)) in
    (ap accepted count ∙ sym (rw (delivered_answer, fits)), appended_over old batch new n placed ∙ sym (rw (delivered_output, fits)))
told batch old new None long stays =
    let past = lt-leb (length batch) (length old) (omega (arith, long)) in
    (sym (rw (delivered_answer, past)), stays refl ∙ sym (rw (delivered_output, past)))

pub returns : goal.returns
returns c =
    let a = c.args in
    rw c.ok_or.ensures.value (told a.batch.now a.output.now c.append.new.scratch c.append.result c.append.ensures.written c.append.ensures.stays)
