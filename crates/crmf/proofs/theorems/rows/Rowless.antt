-- The containers without rows: from where their lines start no row comes, whatever the elements are. Assumes nothing.
use Prim.Native.Nat.{ℕ, zero, suc}
use mathlib.Core.Bool.{Bool, true, false, not, ◌&&◌, ◌||◌, and-eq-true_iff, false≢true}
use mathlib.Core.List.{List, [], ◌∷◌, ◌++◌}
use mathlib.Core.Logic.{⊎_elim}
use mathlib.Core.Path.{◌≡◌, refl, sym, ap, ◌∙◌}
use borrow.Author.Tests.{eqb-true, ltb-true, not-true}
use lib.Dec.{eqb, ltb}
use Rattle.der.specs.meaning.Tree.{Tree, none, element}
use Rattle.crmf.specs.declared.rows.Around.{Around}
use Rattle.std.specs.Prelude.{None, Some}
use Rattle.crmf.specs.steps.grammar.Codes as codes
use Rattle.crmf.specs.meaning.Notation.{among, Name, Time, AlgId, Spki, OneName, RdnSequence, Rdn, Attribute, Extension}
use Rattle.crmf.specs.meaning.Grammar.{content}
use Rattle.crmf.specs.steps.grammar.Lines.{start, size}
use Rattle.crmf.specs.steps.grammar.Packed.{judge_code}
use Rattle.crmf.specs.steps.explain.Walk.{line, walk_goes_on, find_line, FoundLine}
use Rattle.crmf.specs.meaning.Rows.{Row, Extent, extent_of}
use Rattle.crmf.specs.steps.rows.Fill.{goes, rows_from, around_extent, inner_rows, rowless}
use Rattle.crmf.proofs.theorems.lists.Tests.{all, all_among, either}
use Rattle.crmf.proofs.theorems.lines.WordFields.{computed}
use Rattle.crmf.proofs.theorems.lines.Search.{found_kept}
use Rattle.crmf.proofs.theorems.lines.Judging.{goes_on}
use Rattle.crmf.proofs.theorems.rows.RowsOfLines.{rows_one, rows_within, inner_no_rows, inner_rows_lem, rows_nowhere, rows_found, rows_one_none}

-- the n numbers from a on, and a container's lines
unfoldable run : ℕ → ℕ → List ℕ
run a zero = []
run a (suc n) = a ∷ run (suc a) n

abbrev lines_of : Name → List ℕ
lines_of n = run (start n) (size (content n))

-- the lines of the containers without rows, and the first end line
unfoldable quiet : List ℕ
quiet =
    0
    ∷ (lines_of Time
    ++ lines_of AlgId
    ++ lines_of Spki
    ++ lines_of OneName
    ++ lines_of RdnSequence
    ++ lines_of Rdn
    ++ lines_of Attribute
    ++ lines_of Extension)

-- the test that a line gives no row, and that the line inside it, the line it goes on with and the next of the table are such lines
abbrev calm : ℕ → Bool
calm k =
    (eqb (line k).item 0 && eqb (line k).kind 0)
    && ((among quiet (line k).inside && (ltb (judge_code (line k).judge) codes.selectors && among quiet (line k).next))
    && (not (walk_goes_on (line k).pass) || among quiet (suc k)))

-- each of the lines passes it
calm_all : all calm quiet ≡ true
unfolding computed line quiet run among
calm_all = refl

-- what the test says of such a line
record Calm (k : ℕ) : Type 0 where
  item : (line k).item ≡ 0
  kind : (line k).kind ≡ 0
  inside : among quiet (line k).inside ≡ true
  onward : (c : List ℕ) → among quiet (goes (line k).judge (line k).next c) ≡ true
  after : walk_goes_on (line k).pass ≡ true → among quiet (suc k) ≡ true

calm_line : (k : ℕ) → among quiet k ≡ true → Calm k
calm_line k q =
    let (rows, more) = (and-eq-true_iff _ _).0 (all_among calm quiet calm_all k q) in
    let (i, o) = (and-eq-true_iff _ _).0 rows in
    let (lines, passed) = (and-eq-true_iff _ _).0 more in
    let (inner, later) = (and-eq-true_iff _ _).0 lines in
    let (j, n) = (and-eq-true_iff _ _).0 later in
    record {
      item = eqb-true _ _ i;
      kind = eqb-true _ _ o;
      inside = inner;
      onward = λ c. ap (among quiet) (sym (goes_on (line k).next _ c (ltb-true _ _ j) (line k).judge refl)) ∙ n;
      after = λ g. ⊎_elim (λ p. absurd (false≢true (sym (not-true _ p) ∙ g))) (λ p. p) (either _ _ passed);
    }

-- from such a line no row comes
quiet_rows : (t : Tree) (k n up : ℕ) (extent : Extent) → among quiet k ≡ true → rows_from k t n up extent ≡ []
unfolding rows_from
quiet_rows none k n up extent q = refl
quiet_rows (element id p w c inside rest) k n up extent q =
    go (find_line k id) refl (λ j i u. quiet_rows inside j i u (extent_of p w c)) (λ j i. quiet_rows rest j i up extent)
  where
    within : (i : ℕ) → among quiet i ≡ true → ((j m u : ℕ) → among quiet j ≡ true → rows_from j inside m u (extent_of p w c) ≡ [])
        → (b : Bool) → eqb i 0 ≡ b → (m u : ℕ) → rows_within i inside m u (extent_of p w c) ≡ []
    within i s inner true e m u = inner_no_rows i inside m u (extent_of p w c) e
    within i s inner false e m u = inner_rows_lem i inside m u (extent_of p w c) e ∙ inner i m u s

    go : (r : FoundLine) → find_line k id ≡ r → ((j m u : ℕ) → among quiet j ≡ true → rows_from j inside m u (extent_of p w c) ≡ [])
        → ((j m : ℕ) → among quiet j ≡ true → rows_from j rest m up extent ≡ []) → rows_from k (element id p w c inside rest) n up extent ≡ []
    go None e inner later = rows_nowhere k id p w c inside rest n up extent e
    go (Some m) e inner later =
        let x = calm_line m (found_kept (λ j. among quiet j ≡ true) (λ j s g. (calm_line j s).after g) id m k q e) in
        let o = goes (line m).judge (line m).next c in
        let here = extent_of p w c in
        let f : ℕ → ℕ → List Row = λ j u. rows_within (line m).inside inside j u here in
        let h : ℕ → List Row = λ j. rows_from o rest j up extent in
        rows_found k id p w c inside rest n up extent m e
        ∙ ap (λ (j : ℕ). rows_one j (line m).item here f h n up extent) x.kind
        ∙ ap (λ (j : ℕ). rows_one 0 j here f h n up extent) x.item
        ∙ rows_one_none here f h n up extent (within (line m).inside x.inside inner (eqb (line m).inside 0) refl)
        ∙ later o n (x.onward c)

-- an inside without rows is one of these
rowless_quiet : (k : ℕ) → rowless k ≡ true → among quiet k ≡ true
unfolding computed rowless quiet run among
rowless_quiet = all_among (among quiet) (0 ∷ start Time ∷ start AlgId ∷ start Spki ∷ start OneName ∷ start Extension ∷ []) refl

-- No row comes from inside an element in the form of a line whose inside has none; any other line's inside is not free.
pub inner_none : (k : ℕ) (s : List ℕ) (p e row : ℕ) (a : Around) → rowless (line k).inside ≡ true → inner_rows k s p e row a ≡ []
inner_none k s p e row a h = go (eqb (line k).inside 0) refl
  where
    go : (b : Bool) → eqb (line k).inside 0 ≡ b → inner_rows k s p e row a ≡ []
    go true f = rw (inner_rows, f)
    go false f = rw (inner_rows, f) (quiet_rows _ (line k).inside row a.up (around_extent a) (rowless_quiet (line k).inside h))

pub inside_some : (k : ℕ) → rowless k ≡ false → k ≡ 0 → ⊥
unfolding rowless among
inside_some k e z = false≢true (sym e ∙ ap rowless z)
