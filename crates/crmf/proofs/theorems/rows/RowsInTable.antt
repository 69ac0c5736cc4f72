-- How the rows of an element and of those after it stand in a table, by their numbers: the row that it gives the element around it and its
-- own, if it has them, then the rows inside it and those after it. Assumes nothing.
use Prim.Native.Nat.{ℕ, ◌+◌, ◌≤◌, ◌<◌}
use native.Mathlib.Nat.{add_assoc, add-zero, zero-add}
use native.Mathlib.Omega.{arith}
use mathlib.Core.Path.{◌≡◌, refl, sym, ◌∙◌, ap}
use mathlib.Core.Bool.{Bool, true, false}
use mathlib.Core.List.{List, [], ◌∷◌, ◌++◌}
use lib.Dec.{eqb}
use lib.ListN.{length, get_or, length-append, get_or-append}
use lib.Seq.{get_or-append-add}
use Rattle.crmf.specs.meaning.Rows.{Row, Extent, row_with, row_if, parent_if}
use Rattle.crmf.proofs.theorems.rows.RowsOfLines.{rows_one, row_none, row_own, parent_none, parent_own}
use Rattle.crmf.proofs.theorems.rows.RowsInPlace.{absent_row}

module _ (table : ℕ → Row) where
  -- Some rows stand in the table from a number on.
  abbrev pub Stands : ℕ → List Row → Type 0
  Stands n rs = (k : ℕ) → k < length rs → table (n + k) ≡ get_or rs k absent_row

  -- then so do the first of them
  stands_first : (n : ℕ) (a b : List Row) → Stands n (a ++ b) → Stands n a
  stands_first n a b stand k l = stand k (omega (arith, length-append a b)) ∙ get_or-append a b absent_row k l

  -- and those after these
  stands_after : (n : ℕ) (a b : List Row) → Stands n (a ++ b) → Stands (n + length a) b
  stands_after n a b stand k l =
      ap table (add_assoc n (length a) k) ∙ stand (length a + k) (omega (arith, length-append a b)) ∙ get_or-append-add a b k absent_row

  -- The number n is that of a row of a kind below the row `up`, if the kind isn't 0: s is the next number, and u the row above the rows inside.
  pub data Placed (kind n up s u : ℕ) : Type 0 where
    none : eqb kind 0 ≡ true → s ≡ n → u ≡ up → Placed kind n up s u
    own : eqb kind 0 ≡ false → (table n).kind ≡ kind → (table n).parent ≡ up → s ≡ n + 1 → u ≡ n → Placed kind n up s u

  -- so it is with an element's row that stands in the table
  placed : (kind : ℕ) (extent : Extent) (n up : ℕ) → Stands n (row_if kind extent up)
      → Placed kind n up (n + length (row_if kind extent up)) (parent_if kind n up)
  placed kind extent n up stand = go (eqb kind 0) refl
    where
      go : (b : Bool) → eqb kind 0 ≡ b → Placed kind n up (n + length (row_if kind extent up)) (parent_if kind n up)
      go true z = none z (ap (λ (rs : List Row). n + length rs) (row_none kind extent up z) ∙ add-zero n) (parent_none kind n up z)
      go false z =
          let r : Row = row_with kind extent up in
          let here : Stands n (r ∷ []) = rw (row_own kind extent up z) at stand in
          let same : table n ≡ r = ap table (sym (add-zero n)) ∙ here 0 (omega arith) in
          own z (ap (λ (x : Row). x.kind) same) (ap (λ (x : Row). x.parent) same)
          (ap (λ (rs : List Row). n + length rs) (row_own kind extent up z)) (parent_own kind n up z)

  -- The row above the rows inside comes before them, if the row above does.
  pub record Order (n up s u : ℕ) : Type 0 where
    pub under : up ≤ n → u ≤ s
    pub strictly : up < n → u < s

  pub placed_order : {kind n up s u : ℕ} → Placed kind n up s u → Order n up s u
  placed_order (none z next above) = record { under = λ l. omega arith; strictly = λ l. omega arith }
  placed_order (own z kind parent next above) = record { under = λ l. omega arith; strictly = λ l. omega arith }

  -- An element's rows and those after it, from n on, before f: the row that it gives the element around it and its own, below the row `up`, those
  -- inside it, and from `after` on those after it.
  pub record Taken (kind item : ℕ) (inner : ℕ → ℕ → List Row) (later : ℕ → List Row) (n up f : ℕ) : Type 0 where
    pub next : ℕ
    pub above : ℕ
    pub around : Placed item n up next above
    pub start : ℕ
    pub below : ℕ
    pub own : Placed kind next above start below
    pub within : Stands start (inner start below)
    pub after : ℕ
    pub goes : n ≤ after
    pub ends : after ≡ start + length (inner start below)
    pub further : Stands after (later after)
    pub last : f ≡ after + length (later after)

  -- so it is where they stand in the table
  pub taken : (kind item : ℕ) (here : Extent) (inner : ℕ → ℕ → List Row) (later : ℕ → List Row) (n up : ℕ) (extent : Extent)
      → Stands n (rows_one kind item here inner later n up extent)
      → Taken kind item inner later n up (n + length (rows_one kind item here inner later n up extent))
  unfolding rows_one
  taken kind item here inner later n up extent stand =
      let around = row_if item extent up in
      let above = parent_if item n up in
      let next = n + length around in
      let own = row_if kind here above in
      let start = next + length own in
      let below = parent_if kind next above in
      let within = inner start below in
      let after = start + length within in
      let rest = later after in
      let past-item = stands_after n around (own ++ (within ++ rest)) stand in
      let past-own = stands_after next own (within ++ rest) past-item in
      record {
        next = next;
        above = above;
        around = placed item extent n up (stands_first n around (own ++ (within ++ rest)) stand);
        start = start;
        below = below;
        own = placed kind here next above (stands_first next own (within ++ rest) past-item);
        within = stands_first start within rest past-own;
        after = after;
        goes = omega arith;
        ends = refl;
        further = stands_after start within rest past-own;
        last =
            omega (
              arith,
              length-append around (own ++ (within ++ rest)),
              length-append own (within ++ rest),
              length-append within rest,
            );
      }

-- rows stand in their own table
pub stands_itself : (rs : List Row) → Stands (λ k. get_or rs k absent_row) 0 rs
stands_itself rs k l = ap (λ (j : ℕ). get_or rs j absent_row) (zero-add k)
