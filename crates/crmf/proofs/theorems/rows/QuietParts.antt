-- Where the grammar's test says that no row stands (`quiet`), a derivation has none. Assumes nothing.
use Prim.Native.Nat.{ℕ, zero, suc}
use mathlib.Core.Path.{◌≡◌, refl, ◌∙◌}
use mathlib.Core.Bool.{Bool, true, ◌&&◌, and-eq-true_iff, false≢true}
use mathlib.Core.List.{[]}
use borrow.Author.Tests.{eqb-true}
use lib.Dec.{eqb}
use Rattle.der.specs.meaning.Tree.{Tree}
use Rattle.crmf.specs.meaning.Notation.{Name, Inside, Form, Parts}
use Rattle.crmf.specs.meaning.Grammar.{content}
use Rattle.crmf.specs.meaning.Language.{Matches, end, pass, take, choose, Within, unseen, parts}
use Rattle.crmf.specs.meaning.Rows.{Extent, extent_of, rows, rows_in}
use Rattle.crmf.proofs.theorems.lists.Tests.{all_get_elem}
use Rattle.crmf.proofs.theorems.values.ValueRules.{way_selected}
use Rattle.crmf.proofs.theorems.grammar.Containers.{all_forms, forms_at, quiet, quiet_to, quiet_parts, quiet_in, after_element}
use Rattle.crmf.proofs.theorems.rows.RowsOfLines.{rows_one, rows_one_none}

-- a container without rows, as deep as the test looks, has parts without rows, less deep
quiet_content : (d : ℕ) (n : Name) → quiet_to d n ≡ true → (e : ℕ) × (quiet_parts (quiet_to e) (content n) ≡ true)
unfolding quiet_to
quiet_content zero n q = absurd (false≢true q)
quiet_content (suc d) n q = (d, q)

-- the test of a form, as deep as that
abbrev bare : ℕ → Form → Bool
bare d f = eqb f.kind 0 && (eqb f.item 0 && quiet_in (quiet_to d) f.inside)

mutual
  unfolding rows rows_in rows_one quiet_parts quiet_in

  -- no row stands where the test says so
  quiet_rows : {R : ℕ → Bool} {ps : Parts} {t : Tree} (m : Matches R ps t) (d : ℕ) → quiet_parts (quiet_to d) ps ≡ true
      → (n up : ℕ) (extent : Extent) → rows m n up extent ≡ []
  quiet_rows end d q n up extent = refl
  quiet_rows (pass {fs = fs} {ps = ps} ok m) d q n up extent =
      quiet_rows m d ((and-eq-true_iff (all_forms (bare d) fs) (quiet_parts (quiet_to d) ps)).0 q).1 n up extent
  quiet_rows (take {o = o} {fs = fs} {ps = ps} {first = p} {whole = w} {c = c} f among fits read kept within m) d q n up extent =
      let here = extent_of p w c in
      let both = (and-eq-true_iff (all_forms (bare d) fs) (quiet_parts (quiet_to d) ps)).0 q in
      let rowless = (and-eq-true_iff (eqb f.kind 0) (eqb f.item 0 && quiet_in (quiet_to d) f.inside)).0 (forms_at (bare d) among both.0) in
      let deep = (and-eq-true_iff (eqb f.item 0) (quiet_in (quiet_to d) f.inside)).0 rowless.1 in
      let after = after_element (λ qs. quiet_parts (quiet_to d) qs ≡ true) o fs ps q both.1 in
      rw (eqb-true f.kind 0 rowless.0, eqb-true f.item 0 deep.0)
      (rows_one_none here (λ j u. rows_in within j u here) (λ j. rows m j up extent) n up extent (λ j u. quiet_rows_in within d deep.1 j u here)
      ∙ quiet_rows m d after n up extent)
  quiet_rows (choose {s = s} {names = ns} {c = c} name way m) d q n up extent =
      let (i, is, there) = (way_selected s c ns name).0 way in
      let (e, less) = quiet_content d name (all_get_elem (quiet_to d) name ns q i there) in
      quiet_rows m e less n up extent

  -- nor inside an element
  quiet_rows_in : {R : ℕ → Bool} {i : Inside} {t : Tree} (within : Within R i t) (d : ℕ) → quiet_in (quiet_to d) i ≡ true
      → (n up : ℕ) (extent : Extent) → rows_in within n up extent ≡ []
  quiet_rows_in unseen d q n up extent = refl
  quiet_rows_in (parts {n = name} m) d q n up extent = let (e, less) = quiet_content d name q in quiet_rows m e less n up extent

-- No row stands inside an element whose inside is a container without rows.
pub no_rows_in : {R : ℕ → Bool} {i : Inside} {t : Tree} (within : Within R i t) → quiet_in quiet i ≡ true → (n up : ℕ) (extent : Extent)
    → rows_in within n up extent ≡ []
unfolding quiet
no_rows_in within = quiet_rows_in within 8
