-- The answer and the output of writing a draft in an edition, computed: the only batch that can have the rows is put together, judged and
-- compared. A theorem (`writes_exactly`) ties it to the meaning. Assumes nothing.
use Rattle.std.specs.Prelude.{ℕ, ◌*◌, Bool, true, false, ◌&&◌, ◌||◌, List, eqb, leb, length}
use Rattle.der.specs.meaning.Refusal.{accepted as acceptance, no_room_number, no_such_batch, unknown_edition_number}
use Rattle.der.specs.meaning.Bounds.{longest}
use Rattle.crmf.specs.meaning.Lists.{over}
use Rattle.crmf.specs.meaning.Rows.{width}
use Rattle.crmf.specs.steps.recognise.Count.{agreed}
use Rattle.crmf.specs.steps.rows.Agree.{draft_rows}
use Rattle.crmf.specs.meaning.Pieces.{Piece, pieces_of}
use Rattle.crmf.specs.steps.rows.Assembly.{assembled, none_longer}
use Rattle.editions.specs.meaning.Answer.{Answer}
use Rattle.editions.specs.meaning.Edition.{rfc2511, rfc4211}
use Rattle.editions.specs.steps.Reading.{refusal, accepted}
use Rattle.writer.specs.meaning.Draft.{inside}

-- the test of an edition's number
abbrev pub is_known : ℕ → Bool
is_known e = eqb e rfc2511 || eqb e rfc4211

-- the most rows that a batch can have: each has two octets of its own
abbrev pub most_rows : ℕ
most_rows = 32767

-- "a draft's numbers [are] a multiple of five"; no batch has more rows than `most_rows`
abbrev pub shaped : List ℕ → Bool
shaped draft = eqb (width * length (draft_rows draft)) (length draft) && leb (length (draft_rows draft)) most_rows

-- the pieces that a draft shows, and the candidate: the only batch that can have them (SPECIFICATION 6, steps 1 to 4)
abbrev pub drafted : List ℕ → List ℕ → List Piece
drafted draft bytes = pieces_of bytes (draft_rows draft)

abbrev pub candidate : List ℕ → List ℕ → List ℕ
candidate draft bytes = assembled 0 (drafted draft bytes)

-- whether the candidate can be put together: the leaves lie in the slice, and nothing is too long
abbrev pub assembles : List ℕ → List ℕ → Bool
assembles draft bytes =
    inside bytes (draft_rows draft) && (none_longer longest 0 (drafted draft bytes) && leb (length (candidate draft bytes)) longest)

-- whether the candidate is a batch of the edition whose rows agree with the draft's
abbrev pub shows : ℕ → List ℕ → List ℕ → Bool
shows e draft bytes = agreed e (candidate draft bytes) draft false

-- Whether a draft describes a batch (SPECIFICATION 6).
unfoldable pub described : ℕ → List ℕ → List ℕ → Bool
described e draft bytes = shaped draft && (assembles draft bytes && shows e draft bytes)

-- "Writing answers 0 and the batch's length", if there is room for it; and "output past the batch stays"
abbrev pub delivered_answer : List ℕ → List ℕ → Answer
delivered_answer batch old = elim (leb (length batch) (length old)) [ false ↦ refusal no_room_number 0 | true ↦ accepted (length batch) ]

abbrev pub delivered_output : List ℕ → List ℕ → List ℕ
delivered_output batch old = elim (leb (length batch) (length old)) [ false ↦ old | true ↦ over old 0 batch ]

-- a candidate is delivered if it is a batch of the edition whose rows agree with the draft's
abbrev pub judged_answer : ℕ → List ℕ → List ℕ → List ℕ → Answer
judged_answer e draft batch old = elim (agreed e batch draft false) [ false ↦ refusal no_such_batch 0 | true ↦ delivered_answer batch old ]

abbrev pub judged_output : ℕ → List ℕ → List ℕ → List ℕ → List ℕ
judged_output e draft batch old = elim (agreed e batch draft false) [ false ↦ old | true ↦ delivered_output batch old ]

-- "Order of writing refusals: 13, 12, 11" (SPECIFICATION 4)
unfoldable pub write_answer : ℕ → List ℕ → List ℕ → List ℕ → Answer
write_answer e draft bytes old =
    elim (is_known e) [
      | false ↦ refusal unknown_edition_number 0
      | true ↦ elim (described e draft bytes) [ false ↦ refusal no_such_batch 0 | true ↦ delivered_answer (candidate draft bytes) old ]
    ]

-- a refusal changes nothing
unfoldable pub output_after : ℕ → List ℕ → List ℕ → List ℕ → List ℕ
output_after e draft bytes old =
    elim (eqb (write_answer e draft bytes old).number acceptance) [ true ↦ over old 0 (candidate draft bytes) | false ↦ old ]
