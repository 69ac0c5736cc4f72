-- What a table of packed rows says of a batch's rows: which are children, and which comes next. Assumes nothing.
use Prim.Native.Nat.{ℕ, ◌<◌}
use native.Mathlib.Omega.{arith}
use mathlib.Core.Path.{◌≡◌, sym, ◌∙◌}
use mathlib.Core.Bool.{true, false, and-eq-true_iff, false≢true}
use mathlib.Core.List.{List}
use lib.Dec.{eqb, ltb}
use lib.ListN.{length, get_or}
use borrow.Author.Tests.{eqb-true, ltb-true, eq-eqb, lt-ltb}
use Rattle.crmf.specs.steps.rows.Fill.{rows_of_input}
use Rattle.crmf.specs.steps.rows.Packing.{parent_of}
use Rattle.compare.specs.meaning.Counterparts.{Child}
use Rattle.compare.specs.steps.Merging.{Next}
use Rattle.compare.specs.steps.Tables.{Tabled, child_at, Ended}

module _ {s table : List ℕ} (x : Tabled s table) where
  -- a child in the table is one in the batch,
  pub table_child : {p i : ℕ} → 0 < i → child_at table p i ≡ true → Child (rows_of_input s) p i
  unfolding child_at
  table_child {p} {i} some is =
      let both = (and-eq-true_iff (ltb i (length table)) (eqb (parent_of (get_or table i 0)) p)).0 is in
      let there = ltb-true i (length table) both.0 in
      record { some = some; there = omega (arith, x.sized); below = sym (x.parents i there) ∙ eqb-true (parent_of (get_or table i 0)) p both.1 }

  -- and conversely
  pub table_no_child : {p i : ℕ} → child_at table p i ≡ false → Child (rows_of_input s) p i → ⊥
  unfolding child_at
  table_no_child {p} {i} isnt c =
      let there : i < length table = omega (arith, c.there, x.sized) in
      false≢true (sym isnt ∙ (and-eq-true_iff (ltb i (length table)) (eqb (parent_of (get_or table i 0)) p)).1 (lt-ltb i (length table) there, eq-eqb (parent_of (get_or table i 0)) p (x.parents i there ∙ c.below)))

  -- so it is with the next row
  pub table_next : {i k : ℕ} → Ended table i k → Next (rows_of_input s) i k
  table_next {i} {k} e =
      record {
        past = e.past;
        there = omega (arith, e.there, x.sized);
        below = λ m from to. omega (arith, e.below m from to, x.parents m (omega (arith, e.there)));
        out = λ more. omega (arith, e.out (omega (arith, x.sized)), x.parents k (omega (arith, x.sized)));
      }
