-- What reading a batch into a table answers, and the table afterwards, for every edition number, bytes and table: SPECIFICATION 4 and 5. One
-- relation, by `Answers` and then 11. Assumes nothing.
use Rattle.std.specs.Prelude.{ℕ, ◌*◌, ◌≤◌, ◌<◌, ◌≡◌, List, length}
use Rattle.der.specs.meaning.Refusal.{accepted, no_room_number}
use Rattle.crmf.specs.meaning.Lists.{over}
use Rattle.crmf.specs.meaning.Rows.{width, numbers, batch_rows}
use Rattle.editions.specs.meaning.Membership.{InGrammar}
use Rattle.editions.specs.meaning.Answers.{Answers}

-- From the table at first to the number, the place, the count and the table afterwards. "Refusals .. change nothing lent".
pub data Reads (e : ℕ) (s old : List ℕ) : (number place count : ℕ) (new : List ℕ) → Type 0 where
  -- a refusal before 11
  refused : {number place count : ℕ} → Answers e s number place count → (number ≡ accepted → ⊥) → Reads e s old number place count old
  -- 11 "table or output too short": "Room is enough exactly when the accepted answer fits"; "Room .. [is] now five numbers a row"
  too_short : {count : ℕ} → Answers e s accepted 0 count → length old < width * count → Reads e s old no_room_number 0 0 old
  -- "what an accepted reading changes [is] now five numbers a row" "and no others": they become the rows of the batch
  shown : (g : InGrammar e s) → Answers e s accepted 0 (length (batch_rows g.batch)) → width * length (batch_rows g.batch) ≤ length old
      → Reads e s old accepted 0 (length (batch_rows g.batch)) (over old 0 (numbers (batch_rows g.batch)))
