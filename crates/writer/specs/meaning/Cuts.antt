-- What cutting a message out of a batch answers and leaves in the output, as a relation on the batch's messages: document 02's request A13,
-- SPECIFICATION 10. It names nothing that computes them. Assumes nothing.
use Rattle.std.specs.Prelude.{ℕ, ◌≤◌, ◌<◌, ◌≡◌, List, [], ◌∷◌, length}
use Rattle.std.proofs.Math.Option.{some}
use Rattle.std.proofs.Math.ListN.{get_elem?}
use Rattle.der.specs.meaning.Refusal.{accepted, no_room_number, no_such_message}
use Rattle.crmf.specs.meaning.Fields.{octets}
use Rattle.crmf.specs.meaning.Lists.{over}
use Rattle.crmf.specs.meaning.Messages.{Message, messages, batch_octets}
use Rattle.editions.specs.meaning.Answers.{Answers}
use Rattle.editions.specs.meaning.TwoBatches.{Accepted}

-- "cutting gives the one-message batch of a named position": its octets, by the message there
unfoldable pub cut : Message → List ℕ
cut m = batch_octets (octets m.own ∷ [])

-- The message at a position of a batch is cut out in edition e into an output that is `old` before and `new` afterwards, with this number, place
-- and count. "Refusals: .. for cutting the batch's, 14, 11": each case says that none before it applies. A refusal changes nothing lent.
pub data Cuts (e : ℕ) (s : List ℕ) (position : ℕ) (old : List ℕ) : (number place count : ℕ) (new : List ℕ) → Type 0 where
  -- "the batch's"
  refused : {number place count : ℕ} → Answers e s number place count → (number ≡ accepted → ⊥) → Cuts e s position old number place 0 old
  -- "14": no message at that position
  missing : (a : Accepted e s) → length (messages a.batch.nest) ≤ position → Cuts e s position old no_such_message 0 0 old
  -- "11"
  no_room : (a : Accepted e s) (m : Message) → get_elem? (messages a.batch.nest) position ≡ some m → length old < length (cut m)
      → Cuts e s position old no_room_number 0 0 old
  -- the one-message batch, with its length; the output past it stays
  written : (a : Accepted e s) (m : Message) → get_elem? (messages a.batch.nest) position ≡ some m → length (cut m) ≤ length old
      → Cuts e s position old accepted 0 (length (cut m)) (over old 0 (cut m))
