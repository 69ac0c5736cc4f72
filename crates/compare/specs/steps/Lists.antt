-- A list of entries as it is written, from a number on and as far as there is room. Assumes nothing.
use Rattle.std.specs.Prelude.{ℕ, ◌*◌, ◌/◌, ◌≡◌, Bool, true, false, List, ◌++◌, ℤ, length, take, drop}
use Rattle.crmf.specs.steps.rows.Fill.{rows_of_input}
use Rattle.compare.specs.meaning.Changes.{Change, Later, entry_numbers, entries}
use Rattle.compare.specs.meaning.Times.{seconds_later}

-- the entries from a number on that a list has room for
abbrev pub kept : ℕ → List Change → List ℤ → List Change
kept from cs old = take (length old / entry_numbers) (drop from cs)

-- the list with these written into its first numbers
abbrev pub window : Later → ℕ → List Change → List ℤ → List ℤ
window later from cs old = entries later (kept from cs old) ++ drop (entry_numbers * length (kept from cs old)) old

-- Some entries are added to a list that has all those before them, `count` in number: whatever the list was at first, it has them too.
abbrev pub Added : Later → (from count : ℕ) → List Change → (old new : List ℤ) → Type 0
Added later from count cs old new =
    (before : List Change) (base : List ℤ) → length before ≡ count → old ≡ window later from before base → new ≡ window later from (before ++ cs) base

-- how many seconds later the second's times are, by the rows that are read of two batches
abbrev pub later_between : (s t : List ℕ) → Later
later_between s t = seconds_later s t (rows_of_input s) (rows_of_input t)

-- A test tells whether two lists of octets are the same.
abbrev pub Tells : Bool → List ℕ → List ℕ → Type 0
Tells true one two = one ≡ two
Tells false one two = one ≡ two → ⊥
