-- Rows move with the bytes: the same elements at another place have the same rows, moved. Assumes nothing.
use Prim.Native.Nat.{ℕ, ◌+◌}
use native.Mathlib.Nat.{add_assoc}
use mathlib.Core.Path.{◌≡◌, refl, sym, ◌∙◌, ap}
use mathlib.Core.Bool.{Bool, true, false}
use mathlib.Core.List.{List, map, map-append}
use lib.Dec.{eqb}
use lib.ListN.{length-map}
use Rattle.der.specs.meaning.Tree.{Tree, none, element, moved}
use Rattle.der.proofs.Laws.{moved_none, moved_element}
use Rattle.std.specs.Prelude.{None, Some}
use Rattle.crmf.specs.meaning.Notation.{Name}
use Rattle.crmf.specs.meaning.Grammar.{content}
use Rattle.crmf.specs.meaning.Language.{Matches}
use Rattle.crmf.specs.steps.grammar.Lines.{start}
use Rattle.crmf.specs.steps.explain.Walk.{line, find_line, FoundLine}
use Rattle.crmf.specs.meaning.Rows.{Row, Extent, header_length, extent_of, row_if, rows, moved_row}
use Rattle.crmf.specs.steps.rows.Fill.{goes, rows_from}
use Rattle.crmf.proofs.theorems.rows.RowsOfLines.{rows_one, rows_within, inner_no_rows, inner_rows_lem, rows_nowhere, rows_found, row_mapped, rows_lines}

-- an extent moved so
abbrev pub shifted : ℕ → Extent → Extent
shifted d x = record { first = d + x.first; whole = x.whole; content = d + x.content }

-- an element's extent moves with it
pub extent_moved : (d p w : ℕ) (c : List ℕ) → extent_of (d + p) w c ≡ shifted d (extent_of p w c)
extent_moved d p w c = ap (λ (n : ℕ). record { first = d + p; whole = w; content = n }) (add_assoc d p (header_length w c))

-- and so does its own row
row_moved : (d kind : ℕ) (here : Extent) (up : ℕ) → row_if kind (shifted d here) up ≡ map (moved_row d) (row_if kind here up)
row_moved d kind here up = row_mapped (moved_row d) kind here (shifted d here) up up refl

-- an element's rows move with those inside it and after it
rows_one_moved : (d kind item : ℕ) (here : Extent) (f g : ℕ → ℕ → List Row) (h i : ℕ → List Row) (n up : ℕ) (extent : Extent)
    → ((j u : ℕ) → g j u ≡ map (moved_row d) (f j u)) → ((j : ℕ) → i j ≡ map (moved_row d) (h j))
    → rows_one kind item (shifted d here) g i n up (shifted d extent) ≡ map (moved_row d) (rows_one kind item here f h n up extent)
unfolding rows_one
rows_one_moved d kind item here f g h i n up extent inner later =
    simp (row_moved d, length-map, inner, later, map-append)

-- the rows inside an element move with it
inner_moved : (d i : ℕ) (inside : Tree) (n up : ℕ) (extent : Extent)
    → rows_from i (moved d inside) n up (shifted d extent) ≡ map (moved_row d) (rows_from i inside n up extent)
    → rows_within i (moved d inside) n up (shifted d extent) ≡ map (moved_row d) (rows_within i inside n up extent)
inner_moved d i inside n up extent each = go (eqb i 0) refl
  where
    go : (b : Bool) → eqb i 0 ≡ b → rows_within i (moved d inside) n up (shifted d extent) ≡ map (moved_row d) (rows_within i inside n up extent)
    go true e =
        inner_no_rows i (moved d inside) n up (shifted d extent) e ∙ sym (ap (map (moved_row d)) (inner_no_rows i inside n up extent e))
    go false e =
        inner_rows_lem i (moved d inside) n up (shifted d extent) e ∙ each ∙ sym (ap (map (moved_row d)) (inner_rows_lem i inside n up extent e))

-- The rows from a line on of elements moved by some bytes are their rows, moved.
pub rows_from_moved : (d : ℕ) (t : Tree) (k n up : ℕ) (extent : Extent)
    → rows_from k (moved d t) n up (shifted d extent) ≡ map (moved_row d) (rows_from k t n up extent)
unfolding rows_from
rows_from_moved d none k n up extent = ap (λ (t : Tree). rows_from k t n up (shifted d extent)) (moved_none d)
rows_from_moved d (element id p w c inside rest) k n up extent =
    ap (λ (t : Tree). rows_from k t n up (shifted d extent)) (moved_element d id p w c inside rest)
    ∙ go (λ i j u. rows_from_moved d inside i j u (extent_of p w c)) (λ i j. rows_from_moved d rest i j up extent) (find_line k id) refl
  where
    go : ((i j u : ℕ) → rows_from i (moved d inside) j u (shifted d (extent_of p w c)) ≡ map (moved_row d) (rows_from i inside j u (extent_of p w c)))
        → ((i j : ℕ) → rows_from i (moved d rest) j up (shifted d extent) ≡ map (moved_row d) (rows_from i rest j up extent))
        → (f : FoundLine) → find_line k id ≡ f
        → rows_from k (element id (d + p) w c (moved d inside) (moved d rest)) n up (shifted d extent)
        ≡ map (moved_row d) (rows_from k (element id p w c inside rest) n up extent)
    go each further None e =
        rows_nowhere k id (d + p) w c (moved d inside) (moved d rest) n up (shifted d extent) e
        ∙ sym (ap (map (moved_row d)) (rows_nowhere k id p w c inside rest n up extent e))
    go each further (Some m) e =
        let x = line m in
        let o = goes x.judge x.next c in
        let here = extent_of p w c in
        rows_found k id (d + p) w c (moved d inside) (moved d rest) n up (shifted d extent) m e
        ∙ ap (λ (y : Extent). rows_one x.kind x.item y (λ j u. rows_within x.inside (moved d inside) j u y)
        (λ j. rows_from o (moved d rest) j up (shifted d extent)) n up (shifted d extent)) (extent_moved d p w c)
        ∙ rows_one_moved d x.kind x.item here (λ j u. rows_within x.inside inside j u here)
        (λ j u. rows_within x.inside (moved d inside) j u (shifted d here)) (λ j. rows_from o rest j up extent)
        (λ j. rows_from o (moved d rest) j up (shifted d extent)) n up extent
        (λ j u. inner_moved d x.inside inside j u here (each x.inside j u))
        (further o)
        ∙ sym (ap (map (moved_row d)) (rows_found k id p w c inside rest n up extent m e))

-- Rows move with the bytes: a derivation of the moved elements has the rows of a derivation of the elements, moved.
pub rows_moved : {R Q : ℕ → Bool} (name : Name) (d : ℕ) (t : Tree) (m : Matches R (content name) t) (e : Matches Q (content name) (moved d t))
    (n up : ℕ) (extent : Extent) → rows e n up (shifted d extent) ≡ map (moved_row d) (rows m n up extent)
rows_moved name d t m e n up extent =
    sym (rows_lines name e n up (shifted d extent))
    ∙ rows_from_moved d t (start name) n up extent
    ∙ ap (map (moved_row d)) (rows_lines name m n up extent)
