-- What merging two batches' rows finds: the number of entries, those that are listed, and the part that one of them speaks of. Assumes nothing.
use Rattle.std.specs.Prelude.{ℕ, ◌+◌, ◌*◌, ◌≤◌, ◌<◌, ◌≡◌, true, false, List, leb, ℤ, length, get_or, Option, Some, None, ⊤}
use Rattle.std.proofs.Math.Option.{some}
use Rattle.std.proofs.Math.ListN.{get_elem?}
use Rattle.crmf.specs.steps.rows.Fill.{rows_of_input}
use Rattle.crmf.specs.steps.rows.Packing.{first_of, whole_of}
use Rattle.editions.specs.declared.pair.File.{File}
use Rattle.editions.specs.declared.pair.File.TheVariants.{First, Second}
use Rattle.compare.specs.declared.found.Found.{Found}
use Rattle.compare.specs.declared.part.Part.{Part}
use Rattle.compare.specs.meaning.Changes.{Change, only_first, only_second, leaves_differ, Later, entry_numbers, entry, Changes}
use Rattle.compare.specs.meaning.Parts.{part_row}
use Rattle.compare.specs.steps.Lists.{window, later_between}

-- some entries are the changes between two batches, as their rows are read
abbrev pub Listed : (s t : List ℕ) → List Change → Type 0
Listed s t cs = Changes s t (rows_of_input s) (rows_of_input t) cs

-- The changes are counted, and those from a number on are listed as far as there is room.
pub record Counted (s t : List ℕ) (from : ℕ) (old : List ℤ) (count : ℕ) (new : List ℤ) : Type 0 where
  pub listed : List Change
  pub changes : Listed s t listed
  pub counted : count ≡ length listed
  pub written : new ≡ window (later_between s t) from listed old
  pub few : count ≤ length (rows_of_input s) + length (rows_of_input t)

-- What is wanted: all entries, or the one with a number, in a list that has room for it alone.
abbrev pub Wanted : Option ℕ → List ℤ → Type 0
Wanted None list = ⊤
Wanted (Some n) list = length list ≡ entry_numbers

-- what becomes of a list: if all are wanted and there is no room for them it stays
unfoldable pub gathered : Later → Option ℕ → List Change → List ℤ → List ℤ
gathered later None cs old = elim (leb (entry_numbers * length cs) (length old)) [ true ↦ window later 0 cs old | false ↦ old ]
gathered later (Some n) cs old = window later n cs old

-- whose part it is that an entry speaks of
abbrev pub file_of : Change → File
file_of (only_first i) = First
file_of (only_second j) = Second
file_of (leaves_differ i j) = First

-- the part that an entry speaks of
pub record PartFound (s t : List ℕ) (c : Change) (r : Part) : Type 0 where
  pub file : r.file ≡ file_of c
  pub from : r.from ≡ (part_row (rows_of_input s) (rows_of_input t) c).first
  pub size : r.length ≡ (part_row (rows_of_input s) (rows_of_input t) c).whole

-- It is the part of the entry with a number.
pub record PartThere (s t : List ℕ) (cs : List Change) (n : ℕ) (r : Part) : Type 0 where
  pub change : Change
  pub here : get_elem? cs n ≡ some change
  pub found : PartFound s t change r

-- The part of the entry with a number is found, or there is no such entry.
abbrev pub PartOf : (s t : List ℕ) → List Change → ℕ → Option Part → Type 0
PartOf s t cs n None = length cs ≤ n
PartOf s t cs n (Some r) = PartThere s t cs n r

-- The changes are counted and listed as is wanted and, if one is wanted, its part is found.
pub record Gathered (s t : List ℕ) (wanted : Option ℕ) (old : List ℤ) (r : Found) (new : List ℤ) : Type 0 where
  pub listed : List Change
  pub changes : Listed s t listed
  pub counted : r.count ≡ length listed
  pub written : new ≡ gathered (later_between s t) wanted listed old
  pub part : (n : ℕ) → wanted ≡ Some n → PartOf s t listed n r.part

-- the rows that an entry speaks of are in the tables
abbrev pub InTables : List ℕ → List ℕ → Change → Type 0
InTables one two (only_first i) = i < length one
InTables one two (only_second j) = j < length two
InTables one two (leaves_differ i j) = (i < length one) × (j < length two)

-- A list begins with an entry.
pub record Begins (one two : List ℕ) (list : List ℤ) : Type 0 where
  pub change : Change
  pub later : Later
  pub numbers : list ≡ entry later change
  pub within : InTables one two change
  pub few : (length one ≤ 32767) × (length two ≤ 32767)

-- the packed row that the part of an entry is of
abbrev pub row_of : List ℕ → List ℕ → Change → ℕ
row_of one two (only_first i) = get_or one i 0
row_of one two (only_second j) = get_or two j 0
row_of one two (leaves_differ i j) = get_or one i 0

-- The part of the entry that a list begins with.
abbrev pub Spoken : List ℕ → List ℕ → List ℤ → Part → Type 0
Spoken one two list r =
    (later : Later) (c : Change) → list ≡ entry later c
    → r ≡ record { file = file_of c; from = first_of (row_of one two c); length = whole_of (row_of one two c) }
