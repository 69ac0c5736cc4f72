-- Rows below a row come right after it. The rows of some elements are a run of a table: the rows between two numbers, each below the row
-- around the elements or below an earlier row of the run. So it is with no rows, with a row and a run below it, and with a run and another
-- after it. Assumes nothing.
use Prim.Native.Nat.{ℕ, ◌+◌, ◌≤◌, ◌<◌}
use native.Mathlib.Omega.{arith}
use mathlib.Core.Path.{◌≡◌, refl, ◌∙◌, ap}
use mathlib.Core.Bool.{Bool, true, false}
use mathlib.Core.List.{List}
use mathlib.Core.Logic.{◌⊎◌, inl, inr, ⊎_elim}
use lib.Dec.{ltb}
use lib.ListN.{length, get_or}
use borrow.Author.Tests.{ltb-true, ltb-false}
use Rattle.der.specs.meaning.Tree.{Tree}
use Rattle.crmf.specs.meaning.Notation.{Top, Inside, Parts}
use Rattle.crmf.specs.meaning.Grammar.{content}
use Rattle.crmf.specs.meaning.Language.{Matches, end, pass, take, choose, Within, unseen, parts}
use Rattle.crmf.specs.meaning.Rows.{Row, Extent, extent_of, no_extent, rows, rows_in, batch_rows}
use Rattle.crmf.proofs.theorems.rows.RowsOfLines.{rows_one}
use Rattle.crmf.proofs.theorems.rows.RowsInPlace.{absent_row}
use Rattle.crmf.proofs.theorems.rows.RowsInTable.{Stands, Placed, none, own, placed_order, Taken, taken, stands_itself}

-- a number is before another, or from there on
pub before_or_from : (k e : ℕ) → (k < e) ⊎ (e ≤ k)
before_or_from k e = go (ltb k e) refl
  where
    go : (b : Bool) → ltb k e ≡ b → (k < e) ⊎ (e ≤ k)
    go true t = inl (ltb-true k e t)
    go false t = inr (ltb-false k e t)

module _ (table : ℕ → Row) where
  -- A row of a run from n on, below the row `up`: its parent is that row, or one of the run, and no later row.
  pub record Below (n up k : ℕ) : Type 0 where
    pub low : up ≤ (table k).parent
    pub outer : (table k).parent < n → (table k).parent ≤ up
    pub early : (table k).parent ≤ k

  -- The rows from n on, before e, are a run below the row `up`: each is, and between a row and its parent are only rows whose parents come no
  -- earlier than that parent.
  pub record Run (n e up : ℕ) : Type 0 where
    pub each : (k : ℕ) → n ≤ k → k < e → Below n up k
    pub nested : (i k : ℕ) → n ≤ i → i < k → k < e → (table k).parent < i → (table k).parent ≤ (table i).parent

  -- no rows
  run_none : (n up : ℕ) → Run n (n + 0) up
  run_none n up = record { each = λ k l h. absurd (omega arith); nested = λ i k l less h before. absurd (omega arith) }

  -- a row, if there is one, and a run inside it
  pub run_row : {kind n up s u : ℕ} (e : ℕ) → up ≤ n → Placed table kind n up s u → Run s e u → Run n e up
  run_row e le (none z next same) r = rw (next, same) at r
  run_row {n = n} {up = up} {s = s} {u = u} e le (own z kind parent next same) r = record { each = each; nested = nested }
    where
      each : (k : ℕ) → n ≤ k → k < e → Below n up k
      each k l h =
          ⊎_elim
          (λ first.
          let here : (table k).parent ≡ up = ap (λ (j : ℕ). (table j).parent) (omega arith) ∙ parent in
          record { low = omega arith; outer = λ before. omega arith; early = omega arith })
          (λ later.
          let b = r.each k later h in
          record { low = omega (arith, b.low); outer = λ before. omega (arith, b.low); early = b.early })
          (before_or_from k s)

      nested : (i k : ℕ) → n ≤ i → i < k → k < e → (table k).parent < i → (table k).parent ≤ (table i).parent
      nested i k l less h before =
          ⊎_elim (λ first. omega (arith, (r.each k (omega arith) h).low)) (λ later. r.nested i k later less h before) (before_or_from i s)

  -- a run, and another after it
  run_append : {n e f up : ℕ} → up ≤ n → n ≤ e → Run n e up → Run e f up → Run n f up
  run_append {n = n} {e = e} {f = f} {up = up} le goes a b = record { each = each; nested = nested }
    where
      each : (k : ℕ) → n ≤ k → k < f → Below n up k
      each k l h =
          ⊎_elim (a.each k l)
          (λ later.
          let x = b.each k later h in
          record { low = x.low; outer = λ before. x.outer (omega arith); early = x.early })
          (before_or_from k e)

      nested : (i k : ℕ) → n ≤ i → i < k → k < f → (table k).parent < i → (table k).parent ≤ (table i).parent
      nested i k l less h before =
          ⊎_elim (λ first. a.nested i k l less first before)
          (λ later.
          ⊎_elim (λ first. omega (arith, (a.each i l first).low, (b.each k later h).outer (omega arith)))
          (λ both. b.nested i k both less h before)
          (before_or_from i e))
          (before_or_from k e)

  module _ {kind item n up f : ℕ} {inner : ℕ → ℕ → List Row} {later : ℕ → List Row} (le : up ≤ n) (x : Taken table kind item inner later n up f) where
    -- the rows inside an element are a run, if they are one wherever they stand
    pub run_inside : ((j u : ℕ) → u ≤ j → Stands table j (inner j u) → Run j (j + length (inner j u)) u) → Run x.start x.after x.below
    run_inside within =
        rw x.ends (within x.start x.below ((placed_order table x.own).under ((placed_order table x.around).under le)) x.within)

    -- so are all of the element's
    pub run_element : Run x.start x.after x.below → Run n x.after up
    run_element inside = run_row x.after le x.around (run_row x.after ((placed_order table x.around).under le) x.own inside)

    -- and those after it
    pub run_later : ((j : ℕ) → up ≤ j → Stands table j (later j) → Run j (j + length (later j)) up) → Run x.after f up
    run_later further = rw x.last (further x.after (omega (arith, x.goes)) x.further)

  mutual
    unfolding rows rows_in rows_one

    -- The rows of a derivation are a run of a table where they stand.
    pub runs : {R : ℕ → Bool} {ps : Parts} {t : Tree} (m : Matches R ps t) (n up : ℕ) (extent : Extent) → up ≤ n → Stands table n (rows m n up extent)
        → Run n (n + length (rows m n up extent)) up
    runs end n up extent le stand = run_none n up
    runs (pass ok m) n up extent le stand = runs m n up extent le stand
    runs (take {first = p} {whole = w} {c = c} f among fits read kept within m) n up extent le stand =
        let here = extent_of p w c in
        let x = taken table f.kind f.item here (λ j u. rows_in within j u here) (λ j. rows m j up extent) n up extent stand in
        let inside = run_inside le x (λ j u l stand-in. runs_in within j u here l stand-in) in
        run_append le x.goes (run_element le x inside) (run_later le x (λ j l stand-after. runs m j up extent l stand-after))
    runs (choose name way m) n up extent le stand = runs m n up extent le stand

    -- so are those inside an element
    pub runs_in : {R : ℕ → Bool} {i : Inside} {t : Tree} (within : Within R i t) (n up : ℕ) (extent : Extent) → up ≤ n
        → Stands table n (rows_in within n up extent) → Run n (n + length (rows_in within n up extent)) up
    runs_in unseen n up extent le stand = run_none n up
    runs_in (parts m) n up extent le stand = runs m n up extent le stand

-- Rows below a row come right after it: between a row and its parent are only rows whose parents come no earlier than that parent.
pub rows_nested : {R : ℕ → Bool} {t : Tree} (m : Matches R (content Top) t) (i k : ℕ) → i < k → k < length (batch_rows m)
    → (get_or (batch_rows m) k absent_row).parent < i → (get_or (batch_rows m) k absent_row).parent ≤ (get_or (batch_rows m) i absent_row).parent
unfolding batch_rows
rows_nested m i k l there before =
    (runs (λ j. get_or (batch_rows m) j absent_row) m 0 0 no_extent (omega arith) (stands_itself (batch_rows m))).nested i k (omega arith) l (omega arith) before
