-- An entry's numbers, read back from the list that has it. Assumes nothing.
use Prim.Native.Nat.{ℕ, ◌≤◌, ◌<◌}
use native.Mathlib.Omega.{arith}
use mathlib.Core.Path.{◌≡◌, sym, ap, ◌∙◌}
use mathlib.Core.List.{List}
use lib.IntN.{ℤ, pos, nat_abs}
use lib.ListN.{length, get_or}
use mir.Facts.{to_z_pos}
use mir.Syntax.{w64}
use mir.Val.{to_z, of_z}
use Rattle.crmf.specs.steps.rows.Packing.{first_of, whole_of}
use Rattle.editions.specs.declared.pair.File.{File}
use Rattle.editions.specs.declared.pair.File.TheVariants.{First, Second}
use Rattle.compare.specs.declared.part.Part.{Part}
use Rattle.compare.specs.meaning.Changes.{Change, only_first, only_second, leaves_differ, Later, entry_numbers, entry}
use Rattle.compare.specs.steps.Finding.{file_of, InTables, Begins, row_of}

-- the signed number of a list at a place, as an unsigned one and signed again
abbrev pub number_at : List ℤ → ℕ → ℤ
number_at list k = to_z w64 (of_z w64 (get_or list k (pos 0)))

-- a small number is the same
pub same_number : (list : List ℤ) (k n : ℕ) → get_or list k (pos 0) ≡ pos n → n ≤ 32767 → number_at list k ≡ pos n
same_number list k n is small = ap (λ (z : ℤ). to_z w64 (of_z w64 z)) is ∙ to_z_pos w64 (omega arith)

-- the first number of an entry
abbrev pub what : Change → ℕ
what (only_first i) = 1
what (only_second j) = 2
what (leaves_differ i j) = 3

pub first_number : (later : Later) (list : List ℤ) (c : Change) → list ≡ entry later c → of_z w64 (get_or list 0 (pos 0)) ≡ what c
unfolding entry
first_number later list (only_first i) is = ap (λ (l : List ℤ). of_z w64 (get_or l 0 (pos 0))) is
first_number later list (only_second j) is = ap (λ (l : List ℤ). of_z w64 (get_or l 0 (pos 0))) is
first_number later list (leaves_differ i j) is = ap (λ (l : List ℤ). of_z w64 (get_or l 0 (pos 0))) is

-- it has four
pub four_numbers : (later : Later) (list : List ℤ) (c : Change) → list ≡ entry later c → length list ≡ entry_numbers
unfolding entry
four_numbers later list (only_first i) is = ap length is
four_numbers later list (only_second j) is = ap length is
four_numbers later list (leaves_differ i j) is = ap length is

-- the row in the first batch, and the row in the second
pub first_row : (later : Later) (list : List ℤ) (i : ℕ) → list ≡ entry later (only_first i) → get_or list 1 (pos 0) ≡ pos i
unfolding entry
first_row later list i is = ap (λ (l : List ℤ). get_or l 1 (pos 0)) is

pub both_row : (later : Later) (list : List ℤ) (i j : ℕ) → list ≡ entry later (leaves_differ i j) → get_or list 1 (pos 0) ≡ pos i
unfolding entry
both_row later list i j is = ap (λ (l : List ℤ). get_or l 1 (pos 0)) is

pub second_row : (later : Later) (list : List ℤ) (j : ℕ) → list ≡ entry later (only_second j) → get_or list 2 (pos 0) ≡ pos j
unfolding entry
second_row later list j is = ap (λ (l : List ℤ). get_or l 2 (pos 0)) is

-- A row that is read from a list: its number, and that it is in a table.
pub record RowRead (list : List ℤ) (k : ℕ) (table : List ℕ) : Type 0 where
  pub row : ℕ
  pub here : get_or list k (pos 0) ≡ pos row
  pub there : row < length table
  pub few : row ≤ 32767

module _ {one two : List ℕ} {list : List ℤ} (b : Begins one two list) where
  -- the row in the second batch, if the entry is only there,
  pub in_second : of_z w64 (get_or list 0 (pos 0)) ≡ 2 → RowRead list 2 two
  in_second told = go b.change b.numbers b.within
    where
      go : (c : Change) → list ≡ entry b.later c → InTables one two c → RowRead list 2 two
      go (only_first i) is within = absurd (omega (arith, first_number b.later list (only_first i) is))
      go (only_second j) is within = record { row = j; here = second_row b.later list j is; there = within; few = omega (arith, within, b.few.1) }
      go (leaves_differ i j) is within = absurd (omega (arith, first_number b.later list (leaves_differ i j) is))

  -- and otherwise the row in the first
  pub in_first : (of_z w64 (get_or list 0 (pos 0)) ≡ 2 → ⊥) → RowRead list 1 one
  in_first told = go b.change b.numbers b.within
    where
      go : (c : Change) → list ≡ entry b.later c → InTables one two c → RowRead list 1 one
      go (only_first i) is within = record { row = i; here = first_row b.later list i is; there = within; few = omega (arith, within, b.few.0) }
      go (only_second j) is within = absurd (told (first_number b.later list (only_second j) is))
      go (leaves_differ i j) is within = record { row = i; here = both_row b.later list i j is; there = within.0; few = omega (arith, within.0, b.few.0) }

-- the row that is read is the number's
pub row_read : {list : List ℤ} {k : ℕ} {table : List ℕ} (r : RowRead list k table) → number_at list k ≡ pos r.row
row_read {list} {k} r = same_number list k r.row r.here r.few

pub row_same : {list : List ℤ} {k : ℕ} {table : List ℕ} (r : RowRead list k table) (n : ℕ) → get_or list k (pos 0) ≡ pos n → r.row ≡ n
row_same r n is = ap nat_abs (sym r.here ∙ is)

-- the part that a row in a table is
abbrev part_at : File → List ℕ → ℕ → Part
part_at file table row = record { file = file; from = first_of (get_or table row 0); length = whole_of (get_or table row 0) }

-- and the part of an entry
abbrev part_of : List ℕ → List ℕ → Change → Part
part_of one two c = record { file = file_of c; from = first_of (row_of one two c); length = whole_of (row_of one two c) }

module _ {one two : List ℕ} {list : List ℤ} (b : Begins one two list) {part : Part} where
  -- an entry that is only in the second batch has its part there,
  pub spoken_second : of_z w64 (get_or list 0 (pos 0)) ≡ 2 → part ≡ part_at Second two (nat_abs (number_at list 2)) → (later : Later) (c : Change) → list ≡ entry later c
      → part ≡ part_of one two c
  spoken_second told is later (only_first i) same = absurd (omega (arith, first_number later list (only_first i) same))
  spoken_second told is later (only_second j) same =
      let r = in_second b told in
      is ∙ ap (part_at Second two) (ap nat_abs (row_read r) ∙ row_same r j (second_row later list j same))
  spoken_second told is later (leaves_differ i j) same = absurd (omega (arith, first_number later list (leaves_differ i j) same))

  -- and any other in the first
  pub spoken_first : (of_z w64 (get_or list 0 (pos 0)) ≡ 2 → ⊥) → part ≡ part_at First one (nat_abs (number_at list 1)) → (later : Later) (c : Change) → list ≡ entry later c
      → part ≡ part_of one two c
  spoken_first told is later (only_first i) same =
      let r = in_first b told in
      is ∙ ap (part_at First one) (ap nat_abs (row_read r) ∙ row_same r i (first_row later list i same))
  spoken_first told is later (only_second j) same = absurd (told (first_number later list (only_second j) same))
  spoken_first told is later (leaves_differ i j) same =
      let r = in_first b told in
      is ∙ ap (part_at First one) (ap nat_abs (row_read r) ∙ row_same r i (both_row later list i j same))
