-- What joining two batches answers and leaves in the output, as a relation on the batches' messages: document 02's request A13, SPECIFICATION
-- 10. It names nothing that computes them. Assumes nothing.
use Rattle.std.specs.Prelude.{ℕ, ◌+◌, ◌-◌, ◌≤◌, ◌<◌, ◌≡◌, List, ◌++◌, length}
use Rattle.der.specs.meaning.Bounds.{longest}
use Rattle.der.specs.meaning.Refusal.{accepted, too_long_number, no_room_number}
use Rattle.der.specs.meaning.Tree.{Tree}
use Rattle.crmf.specs.meaning.Lists.{over}
use Rattle.crmf.specs.meaning.Messages.{batch, batch_header, message_octets, batch_octets}
use Rattle.editions.specs.meaning.Answers.{Answers}
use Rattle.editions.specs.meaning.TwoBatches.{first_file, second_file, neither_file, Accepted}

-- "the batch with the first's messages and then the second's"
unfoldable pub join : Tree → Tree → List ℕ
join first second = batch_octets (message_octets first ++ message_octets second)

-- how far the first's places move in a join: by "the growth of the batch's header"
abbrev pub first_moves : (first join : Tree) → ℕ
first_moves first join = batch_header join - batch_header first

-- and how far the second's do: by "the join's header and the first's content less its own header"
abbrev pub second_moves : (first second join : Tree) → ℕ
second_moves first second join = batch_header join + length (batch first).content - batch_header second

-- "Joining two accepted batches of one edition": the octets of the two's join
abbrev pub joined : {e : ℕ} {first second : List ℕ} → Accepted e first → Accepted e second → List ℕ
joined one two = join one.batch.nest two.batch.nest

-- Two batches are joined in edition e into an output that is `old` before and `new` afterwards, with this number, place, file and count.
-- "Refusals: the first's, the second's, 1 for a longer result, 11": each case says that none before it applies. A refusal changes nothing lent.
pub data Joins (e : ℕ) (first second old : List ℕ) : (number place file count : ℕ) (new : List ℕ) → Type 0 where
  -- "the first's"
  first_refused : {number place count : ℕ} → Answers e first number place count → (number ≡ accepted → ⊥)
      → Joins e first second old number place first_file 0 old
  -- "the second's"
  second_refused : {number place count : ℕ} → Accepted e first → Answers e second number place count → (number ≡ accepted → ⊥)
      → Joins e first second old number place second_file 0 old
  -- "1 for a longer result"
  too_long : (one : Accepted e first) (two : Accepted e second) → longest < length (joined one two)
      → Joins e first second old too_long_number 0 neither_file 0 old
  -- "11"
  no_room : (one : Accepted e first) (two : Accepted e second) → length (joined one two) ≤ longest → length old < length (joined one two)
      → Joins e first second old no_room_number 0 neither_file 0 old
  -- the join, with its length; the output past it stays
  written : (one : Accepted e first) (two : Accepted e second) → length (joined one two) ≤ longest → length (joined one two) ≤ length old
      → Joins e first second old accepted 0 neither_file (length (joined one two)) (over old 0 (joined one two))
