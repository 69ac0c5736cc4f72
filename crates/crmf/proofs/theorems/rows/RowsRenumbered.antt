-- Elements whose rows come further down have the same rows, renumbered: each row's parent is as far further down, and row 0 stays. Assumes
-- nothing.
use Prim.Native.Nat.{ℕ, zero, suc, ◌+◌, ◌≤◌}
use native.Mathlib.Nat.{add_assoc}
use native.Mathlib.Omega.{arith}
use mathlib.Core.Path.{◌≡◌, refl, sym, ◌∙◌, ap}
use mathlib.Core.Bool.{Bool, true, false}
use mathlib.Core.List.{List, map, map-append}
use lib.Dec.{eqb}
use lib.ListN.{length, length-map}
use Rattle.der.specs.meaning.Tree.{Tree}
use Rattle.crmf.specs.meaning.Notation.{Inside, Parts}
use Rattle.crmf.specs.meaning.Language.{Matches, end, pass, take, choose, Within, unseen, parts}
use Rattle.crmf.specs.meaning.Rows.{Row, Extent, extent_of, row_if, parent_if, rows, rows_in, numbered_further, renumbered_row}
use Rattle.crmf.proofs.theorems.rows.RowsOfLines.{rows_one, row_mapped, parent_none, parent_own}

-- a row's number that isn't 0, further down
pub numbered_some : (k n : ℕ) → 1 ≤ n → numbered_further k n ≡ k + n
numbered_some k zero low = absurd (omega arith)
numbered_some k (suc n) low = refl

-- the number of the parent's row for the rows inside an element, further down
parent_renumbered : (k kind n up : ℕ) → 1 ≤ n → parent_if kind (k + n) (numbered_further k up) ≡ numbered_further k (parent_if kind n up)
parent_renumbered k kind n up low = go (eqb kind 0) refl
  where
    go : (b : Bool) → eqb kind 0 ≡ b → parent_if kind (k + n) (numbered_further k up) ≡ numbered_further k (parent_if kind n up)
    go true e = parent_none kind (k + n) (numbered_further k up) e ∙ sym (ap (numbered_further k) (parent_none kind n up e))
    go false e =
        parent_own kind (k + n) (numbered_further k up) e ∙ sym (numbered_some k n low) ∙ sym (ap (numbered_further k) (parent_own kind n up e))

-- an element's own row, further down
row_renumbered : (k kind : ℕ) (here : Extent) (up : ℕ) → row_if kind here (numbered_further k up) ≡ map (renumbered_row k) (row_if kind here up)
row_renumbered k kind here up = row_mapped (renumbered_row k) kind here here up (numbered_further k up) refl

-- an element's rows are renumbered with those inside it and after it
rows_one_renumbered : (k kind item : ℕ) (here : Extent) (inner : ℕ → ℕ → List Row) (later further : ℕ → List Row) (n up : ℕ) (extent : Extent) → 1 ≤ n
    → ((j u : ℕ) → 1 ≤ j → inner (k + j) (numbered_further k u) ≡ map (renumbered_row k) (inner j u))
    → ((j : ℕ) → 1 ≤ j → further (k + j) ≡ map (renumbered_row k) (later j))
    → rows_one kind item here inner further (k + n) (numbered_further k up) extent
    ≡ map (renumbered_row k) (rows_one kind item here inner later n up extent)
unfolding rows_one
rows_one_renumbered k kind item here inner later further n up extent low within after =
    let around = row_if item extent up in
    let above = parent_if item n up in
    let own = row_if kind here above in
    let next = n + length around in
    let below = parent_if kind next above in
    let inside = inner (next + length own) below in
    simp (
      row_renumbered k,
      length-map,
      parent_renumbered k item n up low,
      add_assoc k n (length around),
      parent_renumbered k kind next above (omega arith),
      add_assoc k next (length own),
      within (next + length own) below (omega arith),
      add_assoc k (next + length own) (length inside),
      after (next + length own + length inside) (omega arith),
      map-append,
    )

mutual
  unfolding rows rows_one

  -- The rows of a derivation that come k rows further down are its rows, renumbered.
  pub rows_renumbered : {R : ℕ → Bool} {ps : Parts} {t : Tree} (m : Matches R ps t) (k n up : ℕ) (extent : Extent) → 1 ≤ n
      → rows m (k + n) (numbered_further k up) extent ≡ map (renumbered_row k) (rows m n up extent)
  rows_renumbered end k n up extent low = refl
  rows_renumbered (pass ok m) k n up extent low = rows_renumbered m k n up extent low
  rows_renumbered (take {first = p} {whole = w} {c = c} f among fits read kept within m) k n up extent low =
      let here = extent_of p w c in
      rows_one_renumbered k f.kind f.item here (λ j u. rows_in within j u here) (λ j. rows m j up extent)
      (λ j. rows m j (numbered_further k up) extent) n up extent low
      (λ j u some. rows_in_renumbered within k j u here some) (λ j some. rows_renumbered m k j up extent some)
  rows_renumbered (choose name way m) k n up extent low = rows_renumbered m k n up extent low

  -- so are those inside an element
  rows_in_renumbered : {R : ℕ → Bool} {i : Inside} {t : Tree} (w : Within R i t) (k n up : ℕ) (extent : Extent) → 1 ≤ n
      → rows_in w (k + n) (numbered_further k up) extent ≡ map (renumbered_row k) (rows_in w n up extent)
  rows_in_renumbered unseen k n up extent low = refl
  rows_in_renumbered (parts m) k n up extent low = rows_renumbered m k n up extent low
