-- What the list of changes between two accepted batches says: document 02's request A5, sentence by sentence. Assumes nothing.
use Prim.Native.Nat.{ℕ, ◌+◌, ◌≤◌, ◌<◌}
use mathlib.Core.Path.{◌≡◌, sym, ap, subst, ◌∙◌}
use mathlib.Core.Bool.{false}
use mathlib.Core.List.{List, [], Memᴰ}
use lib.ListN.{length}
use Rattle.crmf.specs.meaning.Rows.{Row, container}
use Rattle.crmf.specs.steps.rows.Assembly.{assembled}
use Rattle.crmf.specs.steps.rows.Fill.{rows_of_input}
use Rattle.crmf.proofs.Laws.{assembly}
use Rattle.editions.specs.meaning.TwoBatches.{Accepted}
use Rattle.editions.proofs.Laws.{accepted_rows, nest_rows}
use Rattle.compare.specs.meaning.Counterparts.{row_at, Counterpart}
use Rattle.compare.specs.meaning.Changes.{Change, only_first, only_second, leaves_differ, row_octets, Changed, in_both, Changes, FirstAccounted, SecondAccounted}
use Rattle.compare.specs.meaning.Compares.{rows_of, Between}
use Rattle.compare.specs.steps.Arranged.{Arranged}
use Rattle.compare.proofs.theorems.Batches.{in_place}
use Rattle.compare.proofs.theorems.Bounded.{changes_few}
use Rattle.compare.proofs.theorems.Complete.{alone_first, alone_second, all_first_accounted, all_second_accounted}
use Rattle.compare.proofs.theorems.EmptyLists.{nothing_changed, unchanged_pieces}
use Rattle.compare.proofs.theorems.Existing.{whole_merge, merged_changes, changes_there}
use Rattle.compare.proofs.theorems.OneCounterpart.{counterpart_kind}
use Rattle.compare.proofs.theorems.OneList.{changes_once}

-- Two leaves that are counterparts, with octets that differ.
pub record LeavesDiffer (first second : List ℕ) (A B : List Row) (i j : ℕ) : Type 0 where
  pub pair : Counterpart A B i j
  pub leaf_first : container (row_at A i).kind ≡ false
  pub leaf_second : container (row_at B j).kind ≡ false
  pub octets : row_octets first (row_at A i) ≡ row_octets second (row_at B j) → ⊥

module _ {e : ℕ} {first second : List ℕ} (one : Accepted e first) (two : Accepted e second) where
  abbrev A : List Row
  A = rows_of one

  abbrev B : List Row
  B = rows_of two

  -- how their rows stand
  a : Arranged first A
  a = in_place one.batch

  b : Arranged second B
  b = in_place two.batch

  -- There is a list of changes.
  pub list_there : (cs : List Change) × Between one two cs
  list_there = changes_there a b

  module _ {cs : List Change} (x : Between one two cs) where
    -- There is only one.
    pub list_once : {ds : List Change} → Between one two ds → cs ≡ ds
    list_once y = changes_once x y

    -- "1 only in the first": an entry with 1 speaks of a row without a counterpart.
    pub only_in_first : {i : ℕ} → Memᴰ (only_first i) cs → (j : ℕ) → Counterpart A B i j → ⊥
    only_in_first m = alone_first (x.only _ m)

    -- "2 only in the second"
    pub only_in_second : {j : ℕ} → Memᴰ (only_second j) cs → (i : ℕ) → Counterpart A B i j → ⊥
    only_in_second m = alone_second (x.only _ m)

    -- "3 leaf bytes differ": an entry with 3 speaks of two leaves whose octets differ.
    pub leaves_apart : {i j : ℕ} → Memᴰ (leaves_differ i j) cs → LeavesDiffer first second A B i j
    leaves_apart m = go (x.only _ m)
      where
        go : {i j : ℕ} → Changed first second A B (leaves_differ i j) → LeavesDiffer first second A B i j
        go (in_both pair leaf octets) =
            record { pair = pair; leaf_first = leaf; leaf_second = ap container (sym (counterpart_kind a b pair)) ∙ leaf; octets = octets }

    -- it is the list of any merge
    merged : (whole_merge a b).listed ≡ cs
    merged = changes_once (merged_changes a b (whole_merge a b).merge) x

    -- "The list is complete": every row of the first batch is accounted for,
    pub first_complete : (i : ℕ) → i < length A → FirstAccounted first second A B cs i
    first_complete i there =
        subst (λ (ds : List Change). FirstAccounted first second A B ds i) merged (all_first_accounted a b (whole_merge a b).merge i there)

    -- and every row of the second.
    pub second_complete : (j : ℕ) → j < length B → SecondAccounted first second A B cs j
    second_complete j there =
        subst (λ (ds : List Change). SecondAccounted first second A B ds j) merged (all_second_accounted a b (whole_merge a b).merge j there)

    -- "empty exactly when the bytes are equal": an empty list is that of equal batches,
    pub empty_equal : cs ≡ [] → first ≡ second
    empty_equal none =
        let unchanged : Between one two [] = subst (Between one two) none x in
        sym (assembly one.batch.batch _ one.batch.formed first one.batch.encoded)
        ∙ ap (assembled 0) (unchanged_pieces a b unchanged)
        ∙ assembly two.batch.batch _ two.batch.formed second two.batch.encoded

    -- There are no more entries than rows in both batches.
    pub list_few : length cs ≤ one.rows + two.rows
    list_few = subst (λ (n : ℕ). length cs ≤ n + two.rows) (accepted_rows one) (subst (λ (n : ℕ). length cs ≤ length A + n) (accepted_rows two) (changes_few a b x))

-- and equal batches have an empty list.
pub equal_empty : {e : ℕ} {first second : List ℕ} (one : Accepted e first) (two : Accepted e second) {cs : List Change} → Between one two cs
    → first ≡ second → cs ≡ []
equal_empty {e} {first} {second} one two {cs} x same =
    let second_rows : (s : List ℕ) → first ≡ s → (c : Accepted e s) → rows_of c ≡ rows_of one =
    λ s is c. sym (nest_rows s c.batch) ∙ ap rows_of_input (sym is) ∙ nest_rows first one.batch in
    nothing_changed (in_place one.batch) cs
    (subst (λ (rs : List Row). Changes first first (rows_of one) rs cs) (second_rows second same two)
    (subst (λ (s : List ℕ). Changes first s (rows_of one) (rows_of two) cs) (sym same) x))
