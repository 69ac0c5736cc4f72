-- What writing answers and what it leaves in the output, as a relation: SPECIFICATION 6. It names nothing that computes them. Assumes nothing.
use Rattle.std.specs.Prelude.{ℕ, ◌≤◌, ◌<◌, List, length}
use Rattle.der.specs.meaning.Refusal.{accepted, no_room_number, no_such_batch, unknown_edition_number}
use Rattle.crmf.specs.meaning.Edition.{Edition}
use Rattle.crmf.specs.meaning.Lists.{over}
use Rattle.writer.specs.meaning.Draft.{HasRows}

-- A draft over some bytes is written in edition e into an output that is `old` before and `new` afterwards, with this number, place and count.
-- "Order of writing refusals: 13, 12, 11": each case says that none before it applies. "Refusals return their number and place, a count of 0,
-- and change nothing lent."
pub data Writes (e : ℕ) (draft bytes old : List ℕ) : (number place count : ℕ) (new : List ℕ) → Type 0 where
  -- "edition not 1 or 2"
  unknown_edition : (Edition e → ⊥) → Writes e draft bytes old unknown_edition_number 0 0 old
  -- "draft describes no acceptable batch"; also if "a draft's numbers" aren't "a multiple of five", are "none, or a leaf leaves the slice", or
  -- if a leaf's content's first byte isn't right: no batch has the rows then
  no_batch : Edition e → ((s : List ℕ) → HasRows e draft bytes s → ⊥) → Writes e draft bytes old no_such_batch 0 0 old
  -- "output too short": "Room is enough exactly when the accepted answer fits"
  no_room : Edition e → (s : List ℕ) → HasRows e draft bytes s → length old < length s → Writes e draft bytes old no_room_number 0 0 old
  -- "Writing answers 0 and the batch's length." "Output past the batch stays."
  written : Edition e → (s : List ℕ) → HasRows e draft bytes s → length s ≤ length old → Writes e draft bytes old accepted 0 (length s) (over old 0 s)
