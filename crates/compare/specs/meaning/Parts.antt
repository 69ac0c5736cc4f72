-- What is handed back for an entry's number: "the part of the first file or of the second that it speaks of" (document 02's request A5,
-- SPECIFICATION 11). Assumes nothing.
use Rattle.std.specs.Prelude.{ℕ, ◌≤◌, ◌≡◌, List, length}
use Rattle.std.proofs.Math.Option.{some}
use Rattle.std.proofs.Math.ListN.{get_elem?}
use Rattle.std.specs.Borrow.{Bor}
use Rattle.der.specs.meaning.Refusal.{accepted, no_such_message}
use Rattle.crmf.specs.meaning.Rows.{Row}
use Rattle.editions.specs.meaning.Answers.{Answers}
use Rattle.editions.specs.meaning.HandedBack.{HandedBack}
use Rattle.editions.specs.meaning.TwoBatches.{first_file, second_file, neither_file, Accepted}
use Rattle.compare.specs.meaning.Counterparts.{row_at}
use Rattle.compare.specs.meaning.Changes.{Change, only_first, only_second, leaves_differ}
use Rattle.compare.specs.meaning.Compares.{rows_of, Between}

-- whose part it is: "the first where both have it"
abbrev pub part_file : Change → ℕ
part_file (only_first i) = first_file
part_file (only_second j) = second_file
part_file (leaves_differ i j) = first_file

-- the row that the part is of, in that file
abbrev pub part_row : (A B : List Row) → Change → Row
part_row A B (only_first i) = row_at A i
part_row A B (only_second j) = row_at B j
part_row A B (leaves_differ i j) = row_at A i

-- The part for entry n of the changes between two batches in edition e: the number, the place, the file, and the part's first byte and length in
-- that file, 0 and 0 for "an empty part". "Refusals: the first file's, then the second's, then .. 14 past its end, with an empty part."
pub data Finds (e : ℕ) (first second : List ℕ) (n : ℕ) : (number place file from size : ℕ) → Type 0 where
  -- "the first file's"
  first_refused : {number place count : ℕ} → Answers e first number place count → (number ≡ accepted → ⊥) → Finds e first second n number place first_file 0 0
  -- "then the second's"
  second_refused : {number place count : ℕ} → Accepted e first → Answers e second number place count → (number ≡ accepted → ⊥)
      → Finds e first second n number place second_file 0 0
  -- "14 past its end"
  past : (one : Accepted e first) (two : Accepted e second) (cs : List Change) → Between one two cs → length cs ≤ n
      → Finds e first second n no_such_message 0 neither_file 0 0
  -- the whole element of the row that the entry speaks of
  found : (one : Accepted e first) (two : Accepted e second) (cs : List Change) (c : Change) → Between one two cs → get_elem? cs n ≡ some c
      → Finds e first second n accepted 0 (part_file c) (part_row (rows_of one) (rows_of two) c).first (part_row (rows_of one) (rows_of two) c).whole

-- "For an entry's number from 0 the tool hands back the part of the first file or of the second": by what is found, of the file that it names. An
-- empty part that is neither's is the first's.
pub record HandsBack (e : ℕ) (first second : Bor (List ℕ)) (n : ℕ) (part : Bor (List ℕ)) : Type 0 where
  pub number : ℕ
  pub place : ℕ
  pub file : ℕ
  pub from : ℕ
  pub size : ℕ
  pub answer : Finds e first.now second.now n number place file from size
  pub of_first : (file ≡ second_file → ⊥) → HandedBack first part from size
  pub of_second : file ≡ second_file → HandedBack second part from size
