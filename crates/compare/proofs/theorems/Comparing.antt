-- What is found of two accepted batches is what the relations say of comparing them and of an entry's part. Assumes nothing.
use Prim.Native.Nat.{ℕ, ◌+◌, ◌*◌, ◌/◌, ◌≤◌, ◌<◌}
use native.Mathlib.Omega.{arith}
use mathlib.Core.Path.{◌≡◌, refl, sym, ap, ap₂, subst, ◌∙◌}
use Rattle.std.specs.Prelude.{Some, None}
use mathlib.Core.List.{List, ◌++◌}
use lib.IntN.{ℤ}
use lib.ListN.{length, drop}
use lib.Seq.{take_all}
use borrow.Author.Tests.{le-leb, lt-leb}
use Rattle.der.specs.meaning.Refusal.{accepted, no_room_number, no_such_message}
use Rattle.crmf.specs.meaning.Rows.{Row}
use Rattle.crmf.specs.steps.rows.Fill.{rows_of_input}
use Rattle.editions.specs.meaning.TwoBatches.{first_file, second_file, neither_file, Accepted}
use Rattle.editions.proofs.Laws.{nest_rows}
use Rattle.editions.specs.steps.Results.{file_number}
use Rattle.compare.specs.declared.found.Found.{Found}
use Rattle.compare.specs.declared.part.Part.{Part}
use Rattle.compare.specs.meaning.Changes.{Change, only_first, only_second, leaves_differ, Changed, in_first, in_second, in_both, Changes, Later, entry_numbers, entries}
use Rattle.compare.specs.meaning.Compares.{rows_of, Between, later_in, Compares, no_room, listed}
use Rattle.compare.specs.meaning.Times.{seconds_later}
use Rattle.compare.specs.meaning.Parts.{part_file, part_row, Finds, first_refused, second_refused, past, found}
use Rattle.compare.specs.steps.Arranged.{Arranged}
use Rattle.compare.specs.steps.Finding.{Listed, Gathered, gathered, file_of, PartOf, PartThere}
use Rattle.compare.specs.steps.Lists.{kept, later_between}
use Rattle.compare.proofs.theorems.Batches.{in_place}
use Rattle.compare.proofs.theorems.Gathering.{change_at, member_at, the_entry}
use Rattle.compare.proofs.theorems.OneCounterpart.{counterpart_there}

-- the number of a file
file_numbered : (c : Change) → file_number (file_of c) ≡ part_file c
file_numbered (only_first i) = refl
file_numbered (only_second j) = refl
file_numbered (leaves_differ i j) = refl

module _ {e : ℕ} {first second : List ℕ} (one : Accepted e first) (two : Accepted e second) where
  -- the changes by the rows that are read are those by the batches' rows
  pub between : (cs : List Change) → Listed first second cs → Between one two cs
  between cs x =
      subst (λ (A : List Row). Changes first second A (rows_of two) cs) (nest_rows first one.batch)
      (subst (λ (B : List Row). Changes first second (rows_of_input first) B cs) (nest_rows second two.batch) x)

  -- and so are the seconds between their times
  same_later : later_between first second ≡ later_in one two
  same_later = ap₂ (seconds_later first second) (nest_rows first one.batch) (nest_rows second two.batch)

  module _ {old new : List ℤ} {r : Found} (g : Gathered first second None old r new) where
    -- without room for all,
    pub compares_short : length old < entry_numbers * r.count → Compares e first second old no_room_number 0 neither_file 0 new
    unfolding gathered
    compares_short full =
        let stays : old ≡ new = sym (g.written ∙ rw (gathered, lt-leb (entry_numbers * length g.listed) (length old) (omega (arith, g.counted)))) in
        subst (Compares e first second old no_room_number 0 neither_file 0) stays
        (no_room one two g.listed (between g.listed g.changes) (omega (arith, g.counted)))

    -- and with it.
    pub compares_listed : entry_numbers * r.count ≤ length old → Compares e first second old accepted 0 neither_file r.count new
    unfolding gathered
    compares_listed room =
        let cs = g.listed in
        let all : kept 0 cs old ≡ cs = take_all (length old / entry_numbers) cs (omega (arith, g.counted)) in
        let whole : new ≡ entries (later_in one two) cs ++ drop (entry_numbers * length cs) old =
        g.written ∙ rw (gathered, le-leb (entry_numbers * length cs) (length old) (omega (arith, g.counted)))
        (ap (λ (ds : List Change). entries (later_between first second) ds ++ drop (entry_numbers * length ds) old) all)
        ∙ ap (λ (later : Later). entries later cs ++ drop (entry_numbers * length cs) old) same_later in
        subst (Compares e first second old accepted 0 neither_file r.count) (sym whole)
        (subst (λ (n : ℕ). Compares e first second old accepted 0 neither_file n (entries (later_in one two) cs ++ drop (entry_numbers * length cs) old)) (sym g.counted)
        (listed one two cs (between cs g.changes) (omega (arith, g.counted))))

  module _ {n : ℕ} {old new : List ℤ} {r : Found} (g : Gathered first second (Some n) old r new) where
    -- An entry past the last has no part,
    pub finds_past : r.part ≡ None → Finds e first second n no_such_message 0 neither_file 0 0
    finds_past none = past one two g.listed (between g.listed g.changes) (subst (PartOf first second g.listed n) none (g.part n refl))

    -- and any other has its own.
    pub finds_found : (p : Part) → r.part ≡ Some p → Finds e first second n accepted 0 (file_number p.file) p.from p.length
    finds_found p is =
        let it : PartThere first second g.listed n p = subst (PartOf first second g.listed n) is (g.part n refl) in
        let c = it.change in
        let rows = ap₂ (λ (A B : List Row). part_row A B c) (nest_rows first one.batch) (nest_rows second two.batch) in
        let file = ap file_number it.found.file ∙ file_numbered c in
        let from = it.found.from ∙ ap (λ (x : Row). x.first) rows in
        let size = it.found.size ∙ ap (λ (x : Row). x.whole) rows in
        subst (λ (f : ℕ). Finds e first second n accepted 0 f p.from p.length) (sym file)
        (subst (λ (x : ℕ). Finds e first second n accepted 0 (part_file c) x p.length) (sym from)
        (subst (Finds e first second n accepted 0 (part_file c) (part_row (rows_of one) (rows_of two) c).first) (sym size)
        (found one two g.listed c (between g.listed g.changes) it.here)))

-- A part lies within the file that it is of.
pub record Within (first second : List ℕ) (file from size : ℕ) : Type 0 where
  pub in_first : (file ≡ second_file → ⊥) → from + size ≤ length first
  pub in_second : file ≡ second_file → from + size ≤ length second

-- an empty part does
nothing_within : (first second : List ℕ) (file : ℕ) → Within first second file 0 0
nothing_within first second file = record { in_first = λ x. omega arith; in_second = λ x. omega arith }

-- and so does that of a change
change_within : {first second : List ℕ} {A B : List Row} → Arranged first A → Arranged second B → (c : Change) → Changed first second A B c
    → Within first second (part_file c) (part_row A B c).first (part_row A B c).whole
change_within a b (only_first i) (in_first pair c lone) =
    record { in_first = λ x. a.within i c.there; in_second = λ x. absurd (omega (arith, x)) }
change_within a b (only_second j) (in_second pair c lone) =
    record { in_first = λ x. absurd (x refl); in_second = λ x. b.within j c.there }
change_within a b (leaves_differ i j) (in_both pair leaf octets) =
    record { in_first = λ x. a.within i (counterpart_there a b pair).0; in_second = λ x. absurd (omega (arith, x)) }

pub part_within : {e : ℕ} {first second : List ℕ} {n number place file from size : ℕ} → Finds e first second n number place file from size
    → Within first second file from size
part_within {first = first} {second = second} (first_refused x y) = nothing_within first second first_file
part_within {first = first} {second = second} (second_refused a x y) = nothing_within first second second_file
part_within {first = first} {second = second} (past one two cs x few) = nothing_within first second neither_file
part_within {n = n} (found one two cs c x here) =
    let at = the_entry cs n c here in
    change_within (in_place one.batch) (in_place two.batch) c (subst (Changed _ _ _ _) at.1 (x.only (change_at cs n) (member_at cs n at.0)))
