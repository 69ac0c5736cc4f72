-- Every row of a batch has one of document 01's kinds: it has its line's. Assumes nothing.
use Prim.Native.Nat.{ℕ, ◌+◌}
use mathlib.Core.Path.{◌≡◌, refl, subst}
use mathlib.Core.Bool.{Bool, true, false, and-eq-true_iff}
use mathlib.Core.List.{List, ◌∷◌, ◌++◌}
use lib.Dec.{eqb}
use lib.ListN.{length, get_or}
use Rattle.der.specs.meaning.Tree.{Tree, none, element}
use Rattle.std.specs.Prelude.{None, Some}
use Rattle.crmf.specs.meaning.Kinds as kinds
use Rattle.crmf.specs.meaning.Kinds.{row_kinds}
use Rattle.crmf.specs.meaning.Notation.{among, Top}
use Rattle.crmf.specs.meaning.Grammar.{content}
use Rattle.crmf.specs.meaning.Language.{Matches}
use Rattle.crmf.specs.meaning.Rows.{Row, Extent, extent_of, no_extent, row_if, parent_if, batch_rows}
use Rattle.crmf.specs.steps.explain.Walk.{line, find_line, FoundLine}
use Rattle.crmf.specs.steps.rows.Fill.{goes, rows_from}
use Rattle.crmf.proofs.theorems.lists.Tests.{all, all_append, all_get_d}
use Rattle.crmf.proofs.theorems.lines.TableChecks.{kind_known, item_known}
use Rattle.crmf.proofs.theorems.rows.RowsInPlace.{absent_row}
use Rattle.crmf.proofs.theorems.rows.RowsOfLines.{rows_one, rows_within, inner_no_rows, inner_rows_lem, rows_nowhere, rows_found, rows_lines, row_none, row_own}

-- whether a kind is one of document 01's, or none
abbrev known : ℕ → Bool
known = among (kinds.none ∷ row_kinds)

-- whether the kinds of some rows are
abbrev are_all_known : List Row → Bool
are_all_known = all (λ (r : Row). known r.kind)

-- an element's rows have such kinds if its own are such and the rows inside it and after it have them
if_known : (kind : ℕ) (extent : Extent) (parent : ℕ) → known kind ≡ true → are_all_known (row_if kind extent parent) ≡ true
if_known kind extent parent is = go (eqb kind 0) refl
  where
    go : (b : Bool) → eqb kind 0 ≡ b → are_all_known (row_if kind extent parent) ≡ true
    go true e = rw (row_none kind extent parent e)
    go false e = rw (row_own kind extent parent e) ((and-eq-true_iff (known kind) true).1 (is, refl))

one_known : (kind item : ℕ) (here : Extent) (inner : ℕ → ℕ → List Row) (later : ℕ → List Row) (n up : ℕ) (extent : Extent)
    → known kind ≡ true → known item ≡ true → ((j u : ℕ) → are_all_known (inner j u) ≡ true) → ((j : ℕ) → are_all_known (later j) ≡ true)
    → are_all_known (rows_one kind item here inner later n up extent) ≡ true
unfolding rows_one
one_known kind item here inner later n up extent own given within further =
    let both : (xs ys : List Row) → are_all_known xs ≡ true → are_all_known ys ≡ true → are_all_known (xs ++ ys) ≡ true =
    all_append (λ (r : Row). known r.kind) in
    let around = row_if item extent up in
    let above = parent_if item n up in
    let mine = row_if kind here above in
    let next = n + length around in
    let inside = inner (next + length mine) (parent_if kind next above) in
    let rest = later (next + length mine + length inside) in
    both around (mine ++ (inside ++ rest)) (if_known item extent up given)
    (both mine (inside ++ rest) (if_known kind here above own)
    (both inside rest (within (next + length mine) (parent_if kind next above)) (further (next + length mine + length inside))))

-- by its line
line_known : (k id p w : ℕ) (c : List ℕ) (inside rest : Tree) (n up : ℕ) (extent : Extent)
    → ((i j u : ℕ) (x : Extent) → are_all_known (rows_from i inside j u x) ≡ true) → ((i j : ℕ) → are_all_known (rows_from i rest j up extent) ≡ true)
    → are_all_known (rows_from k (element id p w c inside rest) n up extent) ≡ true
line_known k id p w c inside rest n up extent within further = by_line (find_line k id) refl
  where
    in_it : (i j u : ℕ) (x : Extent) → are_all_known (rows_within i inside j u x) ≡ true
    in_it i j u x = go (eqb i 0) refl
      where
        go : (b : Bool) → eqb i 0 ≡ b → are_all_known (rows_within i inside j u x) ≡ true
        go true e = rw (inner_no_rows i inside j u x e)
        go false e = rw (inner_rows_lem i inside j u x e) (within i j u x)

    by_line : (f : FoundLine) → find_line k id ≡ f → are_all_known (rows_from k (element id p w c inside rest) n up extent) ≡ true
    by_line None e = rw (rows_nowhere k id p w c inside rest n up extent e)
    by_line (Some m) e =
        rw (rows_found k id p w c inside rest n up extent m e)
        (one_known (line m).kind (line m).item (extent_of p w c) (λ j u. rows_within (line m).inside inside j u (extent_of p w c))
        (λ j. rows_from (goes (line m).judge (line m).next c) rest j up extent) n up extent (kind_known m) (item_known m)
        (λ j u. in_it (line m).inside j u (extent_of p w c)) (λ j. further (goes (line m).judge (line m).next c) j))

lines_known : (t : Tree) (k n up : ℕ) (extent : Extent) → are_all_known (rows_from k t n up extent) ≡ true
unfolding rows_from
lines_known none k n up extent = refl
lines_known (element id p w c inside rest) k n up extent =
    line_known k id p w c inside rest n up extent (lines_known inside) (λ i j. lines_known rest i j up extent)

-- Each row of a batch has such a kind.
pub row_known : {R : ℕ → Bool} {t : Tree} (m : Matches R (content Top) t) (i : ℕ) → among (kinds.none ∷ row_kinds) (get_or (batch_rows m) i absent_row).kind ≡ true
unfolding batch_rows among
row_known {t = t} m i =
    all_get_d (λ (r : Row). known r.kind) absent_row refl (batch_rows m)
    (subst (λ (rs : List Row). are_all_known rs ≡ true) (rows_lines Top m 0 0 no_extent) (lines_known t _ 0 0 no_extent)) i
