-- What comparing two batches answers and leaves in the list, as a relation on the batches' rows: document 02's requests A5 and A12, SPECIFICATION
-- 11. Assumes nothing.
use Rattle.std.specs.Prelude.{ℕ, ◌*◌, ◌≤◌, ◌<◌, ◌≡◌, List, ◌++◌, ℤ, length, drop}
use Rattle.der.specs.meaning.Refusal.{accepted, no_room_number}
use Rattle.crmf.specs.meaning.Rows.{Row, batch_rows}
use Rattle.editions.specs.meaning.Answers.{Answers}
use Rattle.editions.specs.meaning.TwoBatches.{first_file, second_file, neither_file, Accepted}
use Rattle.compare.specs.meaning.Changes.{Change, Changes, Later, entry_numbers, entries}
use Rattle.compare.specs.meaning.Times.{seconds_later}

-- the rows of an accepted batch
abbrev pub rows_of : {e : ℕ} {s : List ℕ} → Accepted e s → List Row
rows_of a = batch_rows a.batch.batch

-- Some entries are the changes between two accepted batches.
abbrev pub Between : {e : ℕ} {first second : List ℕ} → Accepted e first → Accepted e second → List Change → Type 0
Between {first = first} {second = second} one two cs = Changes first second (rows_of one) (rows_of two) cs

-- how many seconds later the second's times are than the first's
abbrev pub later_in : {e : ℕ} {first second : List ℕ} → Accepted e first → Accepted e second → Later
later_in {first = first} {second = second} one two = seconds_later first second (rows_of one) (rows_of two)

-- Two batches are compared in edition e, with a list that is `old` before and `new` afterwards, with this number, place, file and count.
-- "Refusals: the first file's, then the second's, then 11 for the list": each case says that none before it applies. A refusal changes nothing
-- lent.
pub data Compares (e : ℕ) (first second : List ℕ) (old : List ℤ) : (number place file count : ℕ) (new : List ℤ) → Type 0 where
  -- "the first file's"
  first_refused : {number place count : ℕ} → Answers e first number place count → (number ≡ accepted → ⊥)
      → Compares e first second old number place first_file 0 old
  -- "then the second's"
  second_refused : {number place count : ℕ} → Accepted e first → Answers e second number place count → (number ≡ accepted → ⊥)
      → Compares e first second old number place second_file 0 old
  -- "then 11 for the list"
  no_room : (one : Accepted e first) (two : Accepted e second) (cs : List Change) → Between one two cs → length old < entry_numbers * length cs
      → Compares e first second old no_room_number 0 neither_file 0 old
  -- every change, with the count of entries; the numbers after the entries stay
  listed : (one : Accepted e first) (two : Accepted e second) (cs : List Change) → Between one two cs → entry_numbers * length cs ≤ length old
      → Compares e first second old accepted 0 neither_file (length cs) (entries (later_in one two) cs ++ drop (entry_numbers * length cs) old)
