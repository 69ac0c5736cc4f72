-- `writer::writer::write` meets its contract: each test is one of the computed answer's. A draft of the bytes' own rows describes the bytes; any
-- other is answered by a size. What is computed is what the relation says, since the bytes are octets. Assumes nothing.
use mathlib.Core.List.{List}
use mathlib.Core.Path.{refl, sym, ◌∙◌}
use Prim.Native.Nat.{ℕ}
use Rattle.der.specs.meaning.Octets.{Octets}
use Rattle.std.proofs.lemmas.Result.{err_from_is_err_and}
use Rattle.der.specs.meaning.Refusal.{no_such_batch}
use Rattle.der.proofs.Laws.{octets_each}
use Rattle.editions.specs.meaning.Answer.{Answer}
use Rattle.editions.specs.steps.Reading.{refusal}
use Rattle.editions.specs.steps.Results.{answer_of}
use Rattle.writer.specs.meaning.Writes.{Writes, unknown_edition}
use Rattle.writer.specs.steps.Inner.{Computed}
use Rattle.writer.proofs.theorems.Describing.{shapeless}
use Rattle.writer.proofs.theorems.Described.{stands_described, stands_candidate}
use Rattle.writer.proofs.theorems.Answering.{edition_is, known_passes, no_batch, delivered}
use Rattle.writer.proofs.theorems.WritesExactly.{writes_exactly}
use Rattle.writer.proofs.writer.write.Goals as goal

-- the computed answer and output are those of the relation
answers : (e : ℕ) (draft bytes old : List ℕ) → Octets bytes → (r : Answer) (new : List ℕ) → Computed e draft bytes old r new
    → Writes e draft bytes old r.number r.place r.count new
answers e draft bytes old octets r new = (writes_exactly e draft bytes old octets r new).1

pub returns-in_err-try_from : goal.returns-in_err-try_from
returns-in_err-try_from c =
    let p = err_from_is_err_and c.from_residual.result c.from_residual.ensures.1 in
    rw (p.1, p.2, c.in_err-try_from.ensures.0) (unknown_edition c.in_err-try_from.ensures.1)

pub returns-then-not-shaped : goal.returns-then-not-shaped
returns-then-not-shaped c =
    let a = c.args in
    answers a.edition a.draft.now a.bytes.now a.output.now (octets_each a.bytes.now (λ i. (c.type_inv.bytes i).fits)) (refusal no_such_batch 0) a.output.now
    (no_batch a.edition a.draft.now a.bytes.now a.output.now (known_passes (edition_is c.in_ok-try_from.field-0 c.in_ok-try_from.ensures))
    (shapeless a.edition a.draft.now a.bytes.now (sym c.shaped.ensures ∙ c.if-not-shaped.true)) (refusal no_such_batch 0) refl)

pub returns-then-stands : goal.returns-then-stands
returns-then-stands c =
    let a = c.args in
    let e = a.edition in
    let octets = octets_each a.bytes.now (λ i. (c.type_inv.bytes i).fits) in
    let shape = sym c.shaped.ensures ∙ c.if-not-shaped.false in
    let known = edition_is c.in_ok-try_from.field-0 c.in_ok-try_from.ensures in
    let agreed = c.stands.ensures c.if-stands.true in
    answers e a.draft.now a.bytes.now a.output.now octets (answer_of c.deliver.result) _
    (delivered e a.draft.now a.bytes.now a.output.now (known_passes known)
    (stands_described e known a.draft.now a.bytes.now octets shape agreed) a.bytes.now
    (sym (stands_candidate e known a.draft.now a.bytes.now octets shape agreed))
    (answer_of c.deliver.result) _ c.deliver.ensures.0 c.deliver.ensures.1)

pub returns : goal.returns
returns c =
    let a = c.args in
    answers a.edition a.draft.now a.bytes.now a.output.now (octets_each a.bytes.now (λ i. (c.type_inv.bytes i).fits)) (answer_of c.sized.result) c.sized.new.output c.sized.ensures
