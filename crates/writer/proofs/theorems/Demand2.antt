-- Demand 2, writing: a draft is refused with 12 exactly if no acceptable batch has its rows and leaf bytes; otherwise, given room, that
-- batch is written, and reading it shows the draft's fields; and writing the rows of an accepted batch gives its bytes again. Each says so of
-- whatever number, place, count and output the contract of writing allows (`Writes`). Assumes nothing.
use Prim.Native.Nat.{ℕ, suc, ◌+◌, ◌*◌, ◌≤◌, ◌<◌}
use native.Mathlib.Omega.{arith}
use mathlib.Core.Logic.{◌↔◌}
use mathlib.Core.Path.{◌≡◌, refl, sym, ap, subst, ◌∙◌}
use mathlib.Core.Bool.{Bool, true, false, ◌||◌, and-eq-true_iff}
use mathlib.Core.List.{List, [], ◌∷◌, Memᴰ}
use lib.Dec.{leb}
use lib.ListN.{length, get_or, take, drop}
use lib.Seq.{take_at}
use borrow.Author.Tests.{le-leb}
use Rattle.der.specs.meaning.Refusal.{accepted as acceptance, no_such_batch}
use Rattle.der.specs.meaning.Octets.{Octets}
use Rattle.der.specs.meaning.Bounds.{depth}
use Rattle.crmf.specs.meaning.Rows.{Row, width, container, numbers, batch_rows, all_short, RightContent, Holds}
use Rattle.crmf.specs.meaning.Lists.{over}
use Rattle.crmf.specs.meaning.Pieces.{pieces_of}
use Rattle.crmf.specs.meaning.Edition.{Edition}
use Rattle.crmf.proofs.Laws.{absent_row, row_ends, row_content_lem, numbers_length, over_parts, short_none}
use Rattle.editions.specs.meaning.Membership.{InGrammar}
use Rattle.editions.specs.meaning.Answer.{Answer}
use Rattle.editions.specs.meaning.Answers.{accept}
use Rattle.editions.specs.meaning.Reads.{Reads, shown}
use Rattle.editions.specs.steps.Reading.{answer}
use Rattle.editions.proofs.Laws.{accepted_in_lem, rows_shown, reads_once, related_reading, shown as computed-shown}
use Rattle.writer.specs.meaning.Draft.{inside, HasRows}
use Rattle.writer.specs.meaning.Writes.{Writes, unknown_edition, no_batch, no_room, written}
use Rattle.writer.proofs.theorems.Described.{rows_are, as_many, one_batch}

-- Demand 1: "A refused call leaves every lent table and output unchanged", and its count is 0.
pub output_stays : {e : ℕ} {draft bytes old : List ℕ} {number place count : ℕ} {new : List ℕ} → Writes e draft bytes old number place count new
    → (number ≡ acceptance → ⊥) → (count ≡ 0) × (new ≡ old)
output_stays (unknown_edition none) some = (refl, refl)
output_stays (no_batch ed none) some = (refl, refl)
output_stays (no_room ed s h short) some = (refl, refl)
output_stays (written ed s h room) some = absurd (some refl)

-- "A draft is refused as describing nothing exactly when no acceptable batch has its rows and leaf bytes"
pub describes_nothing : {e : ℕ} {draft bytes old : List ℕ} {number place count : ℕ} {new : List ℕ} → Edition e → Writes e draft bytes old number place count new
    → (number ≡ no_such_batch) ↔ ((s : List ℕ) → HasRows e draft bytes s → ⊥)
describes_nothing ed (unknown_edition none) = absurd (none ed)
describes_nothing ed (no_batch _ none) = (λ is. none, λ none. refl)
describes_nothing ed (no_room _ s h short) = (λ is. absurd (omega arith), λ none. absurd (none s h))
describes_nothing ed (written _ s h room) = (λ is. absurd (omega arith), λ none. absurd (none s h))

-- "otherwise, given room, that batch is written": the answer has its length
pub written_answer : {e : ℕ} {draft bytes old : List ℕ} {number place count : ℕ} {new : List ℕ} → Edition e → Writes e draft bytes old number place count new
    → (s : List ℕ) → HasRows e draft bytes s → length s ≤ length old → (number ≡ acceptance) × (place ≡ 0) × (count ≡ length s)
written_answer ed (unknown_edition none) s h room = absurd (none ed)
written_answer ed (no_batch _ none) s h room = absurd (none s h)
written_answer {draft} {bytes} ed (no_room _ u own short) s h room = absurd (omega (arith, ap length (one_batch ed draft bytes s u h own)))
written_answer {draft} {bytes} ed (written _ u own fits) s h room = (refl, refl, ap length (one_batch ed draft bytes u s own h))

-- and the output begins with it; its other bytes are as they were
pub written_output : {e : ℕ} {draft bytes old : List ℕ} {number place count : ℕ} {new : List ℕ} → Edition e → Writes e draft bytes old number place count new
    → (s : List ℕ) → HasRows e draft bytes s → length s ≤ length old → new ≡ over old 0 s
written_output ed (unknown_edition none) s h room = absurd (none ed)
written_output ed (no_batch _ none) s h room = absurd (none s h)
written_output {draft} {bytes} ed (no_room _ u own short) s h room = absurd (omega (arith, ap length (one_batch ed draft bytes s u h own)))
written_output {draft} {bytes} {old} ed (written _ u own fits) s h room = ap (over old 0) (one_batch ed draft bytes u s own h)

-- conversely, if 0 is answered, the bytes that were written have the draft's rows
pub written_has_rows : {e : ℕ} {draft bytes old : List ℕ} {number place count : ℕ} {new : List ℕ} → Writes e draft bytes old number place count new → number ≡ acceptance
    → HasRows e draft bytes (take count new)
written_has_rows (unknown_edition none) zero = absurd (omega arith)
written_has_rows (no_batch ed none) zero = absurd (omega arith)
written_has_rows (no_room ed s h short) zero = absurd (omega arith)
written_has_rows {e} {draft} {bytes} {old} (written ed s h room) zero =
    let first : take (length s) (over old 0 s) ≡ s = ap (take (length s)) (over_parts old 0 s) ∙ take_at s (drop (0 + length s) old) (length s) refl in
    subst (HasRows e draft bytes) (sym first) h

-- "and reading it shows the draft's fields": given room it accepts, with the draft's kinds and parents and, in each leaf, its bytes; where each
-- content begins is by the batch's own places
pub reads_back : {e : ℕ} → Edition e → (draft bytes s table : List ℕ) (h : HasRows e draft bytes s) → length draft ≤ length table
    → (number place count : ℕ) (new : List ℕ) → Reads e s table number place count new
    → (number ≡ acceptance) × ((rs : List Row) × (Holds rs count table new × (pieces_of s rs ≡ pieces_of bytes h.rows)
    × ((r : Row) → Memᴰ r rs → RightContent s r)))
reads_back {e} ed draft bytes s table h room number place count new r =
    let g = h.batch in
    let rs = batch_rows g.batch in
    let size : width * length rs ≤ length table =
    omega (arith, as_many ed draft bytes s h, ap length h.numbered, numbers_length h.rows, ap length (rows_are ed draft bytes s h)) in
    let own = shown g (accept ed g (short_none rs h.fit)) size in
    let (zero, place-zero, counted, table_same) = reads_once e s table h.octets number place count acceptance 0 (length rs) new _ r own in
    let accepted_so : Reads e s table acceptance place count new = subst (λ (n : ℕ). Reads e s table n place count new) zero r in
    (zero, (rs, (rows_shown ed s table h.octets place count new accepted_so g, sym h.alike, row_content_lem g.batch depth g.formed s g.encoded)))

-- leaves that end within the bytes lie in them
inside_all : (s : List ℕ) (rs : List Row) → ((i : ℕ) → i < length rs → (get_or rs i absent_row).first + (get_or rs i absent_row).whole ≤ length s) → inside s rs ≡ true
unfolding inside
inside_all s [] ends = refl
inside_all s (r ∷ rs) ends =
    (and-eq-true_iff (container r.kind || leb (r.first + r.whole) (length s)) (inside s rs)).1
    (or_right (container r.kind) (le-leb _ _ (ends 0 (omega arith))), inside_all s rs (λ i there. ends (suc i) (omega arith)))
  where
    or_right : (a : Bool) {b : Bool} → b ≡ true → (a || b) ≡ true
    or_right true on = refl
    or_right false on = on

-- the answer without a table, of a reading that is accepted
related_accepted : (e : ℕ) (s table : List ℕ) → Octets s → (rows : ℕ) (new : List ℕ) → Reads e s table acceptance 0 rows new → (answer e s).number ≡ acceptance
related_accepted e s table octets rows new r =
    (computed-shown e s table (ap (λ (a : Answer). a.number) (related_reading e s table octets acceptance 0 rows new r).0)).zero

-- a batch has its own rows
own_rows_lem : {e : ℕ} (s : List ℕ) (octets : Octets s) (g : InGrammar e s) → all_short (batch_rows g.batch) ≡ true → HasRows e (numbers (batch_rows g.batch)) s s
own_rows_lem s octets g fit = record {
  octets = octets;
  batch = g;
  fit = fit;
  rows = batch_rows g.batch;
  numbered = refl;
  leaves = inside_all s (batch_rows g.batch) (λ i there. omega (arith, row_ends g.batch depth g.formed i there, ap length g.encoded));
  alike = refl;
  right = λ r at leaf. row_content_lem g.batch depth g.formed s g.encoded r at;
}

-- "Writing the rows of an accepted batch into enough room gives its bytes again"
pub writes_again : {e number place count : ℕ} {output : List ℕ} → Edition e → (s table new old : List ℕ) → Octets s
    → (rows : ℕ) → Reads e s table acceptance 0 rows new → length s ≤ length old → Writes e (take (width * rows) new) s old number place count output
    → (number ≡ acceptance) × (place ≡ 0) × (count ≡ length s) × (output ≡ over old 0 s)
writes_again {e} {number} {place} {count} {output} ed s table new old octets rows r room w =
    let (g, fit) = accepted_in_lem e s octets (related_accepted e s table octets rows new r) in
    let draft : take (width * rows) new ≡ numbers (batch_rows g.batch) = (rows_shown ed s table octets 0 rows new r g).first in
    let own : Writes e (numbers (batch_rows g.batch)) s old number place count output = rw draft at w in
    let h = own_rows_lem s octets g fit in
    let (first, second, third) = written_answer ed own s h room in
    (first, second, third, written_output ed own s h room)
