-- What counting answers, by the meaning alone, for every input that is not too long: it passes exactly what the grammar of both editions' forms
-- describes, tallies its rows, first forms and first long certReqId, and otherwise breaks where the reading stops. Assumes nothing.
use Prim.Native.Nat.{ℕ, ◌≤◌, ◌<◌}
use native.Mathlib.Omega.{arith}
use mathlib.Core.Logic.{◌↔◌}
use mathlib.Core.Path.{◌≡◌, sym, ap, ◌∙◌}
use mathlib.Core.Bool.{Bool, true}
use mathlib.Core.List.{List}
use lib.Dec.{eqb}
use lib.ListN.{length}
use borrow.Author.Tests.{lt-leb, eqb-false, ne_eqb}
use Rattle.der.specs.meaning.Tree.{Tree, WellFormed}
use Rattle.der.specs.meaning.Bounds.{longest}
use Rattle.der.specs.steps.Reading.{tree}
use Rattle.crmf.specs.steps.explain.Tally.{Tally}
use Rattle.crmf.specs.meaning.Details.{fits_no_part}
use Rattle.crmf.specs.meaning.Notation.{Top}
use Rattle.crmf.specs.meaning.Grammar.{content}
use Rattle.crmf.specs.meaning.Language.{Matches, occurrences}
use Rattle.crmf.specs.meaning.Rows.{no_extent, batch_rows, FirstLongId}
use Rattle.crmf.specs.meaning.Stops.{Stops}
use Rattle.crmf.specs.steps.grammar.Lines.{start}
use Rattle.crmf.specs.steps.explain.Walk.{walk, every, empty_tally, count_of, Passed, Broken}
use Rattle.crmf.proofs.theorems.explain.Accepts.{accepts}
use Rattle.crmf.proofs.theorems.explain.Stopping.{stops_exactly}
use Rattle.crmf.proofs.theorems.explain.LongIds.{walk_long}
use Rattle.crmf.proofs.theorems.explain.FirstLongIds.{long_exactly}
use Rattle.crmf.proofs.theorems.explain.WholeInput.{count_whole}
use Rattle.crmf.proofs.theorems.editions.FirstSeen.{Edition, first_seen, seen_of}
use Rattle.crmf.proofs.theorems.editions.FirstForms.{FirstForm, forms_exactly}
use Rattle.crmf.proofs.theorems.editions.OneEdition.{other, own_alike, own_stops}
use Rattle.crmf.proofs.theorems.recognise.RecognisedCounts.{none_met}
use Rattle.crmf.proofs.theorems.rows.RowsOfLines.{walk_counts}

-- What is tallied of a batch: how many rows it has, the first form of each edition alone, and the first long certReqId. A number 0, or a length
-- 0, stands for none.
pub record Tallied {R : ℕ → Bool} {t : Tree} (m : Matches R (content Top) t) (r : Tally) : Type 0 where
  pub rows : r.count ≡ length (batch_rows m)
  pub forms : {e : ℕ} → Edition e → (number place : ℕ) → FirstForm (occurrences m) e number place ↔ ((first_seen e r ≡ (number, place)) × (0 < number))
  pub long : (place : ℕ) → FirstLongId (batch_rows m) place ↔ ((0 < r.long.whole) × (r.long.place ≡ place))

-- An input that is not too long, and the tree that is read from it: if it is the encoding of a well-formed tree, that tree.
module _ (s : List ℕ) (short : length s ≤ longest) (t : Tree) (read : tree 0 s ≡ t) where
  -- counting is the walk over the tree
  counting : count_of s ≡ walk every empty_tally (start Top) 0 t
  counting = count_whole s short ∙ ap (walk every empty_tally (start Top) 0) read

  -- the count of a walk that passes is the number of rows
  counted : {R : ℕ → Bool} (m : Matches R (content Top) t) (r : Tally) → count_of s ≡ Passed r → r.count ≡ length (batch_rows m)
  unfolding empty_tally batch_rows
  counted m r passed = omega (arith, walk_counts every Top m empty_tally r 0 0 0 no_extent (sym counting ∙ passed))

  -- Counting passes with n rows exactly when the grammar, with every form, describes the tree and gives it n rows.
  pub count_passes : (n : ℕ) → ((r : Tally) × (count_of s ≡ Passed r) × (r.count ≡ n)) ↔ ((m : Matches (λ e. true) (content Top) t) × (length (batch_rows m) ≡ n))
  count_passes n = (there, back)
    where
      there : (r : Tally) × (count_of s ≡ Passed r) × (r.count ≡ n) → (m : Matches (λ e. true) (content Top) t) × (length (batch_rows m) ≡ n)
      there (r, passed, rows) =
          let m = (accepts every empty_tally Top 0 t).0 (r, sym counting ∙ passed) in
          (m, sym (counted m r passed) ∙ rows)

      back : (m : Matches (λ e. true) (content Top) t) × (length (batch_rows m) ≡ n) → (r : Tally) × (count_of s ≡ Passed r) × (r.count ≡ n)
      back (m, rows) =
          let (r, passed) = (accepts every empty_tally Top 0 t).1 m in
          (r, counting ∙ passed, counted m r (counting ∙ passed) ∙ rows)

  -- It breaks at a place with a detail exactly where the reading of every form stops.
  pub count_stops : (p d : ℕ) → ((r : Tally) × (count_of s ≡ Broken p d r)) ↔ Stops (λ e. true) (content Top) 0 t p d
  count_stops p d =
      (λ (r, breaks). (stops_exactly every empty_tally Top 0 p d t).0 (r, sym counting ∙ breaks), λ stop. let (r, breaks) = (stops_exactly every empty_tally Top 0 p d t).1 stop in (r, counting ∙ breaks))

  -- What it has tallied of well-formed elements that it passes is what any derivation has.
  pub count_tallies : {R : ℕ → Bool} (left : ℕ) → WellFormed left 0 t → (m : Matches R (content Top) t) (r : Tally) → count_of s ≡ Passed r → Tallied m r
  unfolding empty_tally batch_rows
  count_tallies left formed m r passed =
      let walked = sym counting ∙ passed in
      let noted = walk_long every Top m empty_tally r 0 0 0 no_extent walked in
      record {
        rows = counted m r passed;
        forms = λ ed d p. rw walked at (forms_exactly ed Top m left 0 0 formed d p);
        long = λ p. let (there, back) = rw noted at (long_exactly m left formed p) in (
          λ first. let (some-length, is) = there first in (omega (arith, eqb-false r.long.whole 0 some-length), is),
          λ (some-length, is). back (ne_eqb r.long.whole 0 (λ zero. omega arith), is),
        );
      }

  -- Of what it has met by its end or its break: if no form of the other edition is among it, an edition's own reading stops where counting breaks.
  pub count_own : {e : ℕ} → Edition e → (first_seen (other e) (seen_of (count_of s))).0 ≡ 0 → (p d : ℕ)
      → ((r : Tally) × (count_of s ≡ Broken p d r)) ↔ Stops (λ x. eqb x e) (content Top) 0 t p d
  count_own {e} ed clear p d =
      let alike = own_alike ed empty_tally (start Top) 0 t (none_met ed) (rw counting at clear) in (
        λ (r, breaks). (stops_exactly (λ x. eqb x e) empty_tally Top 0 p d t).0 (r, alike ∙ sym counting ∙ breaks),
        λ stop. let (r, breaks) = (stops_exactly (λ x. eqb x e) empty_tally Top 0 p d t).1 stop in (r, counting ∙ sym alike ∙ breaks),
      )

  -- Otherwise the edition's own reading stops at the first of the other's forms, which is the one that was met.
  pub count_foreign : {e : ℕ} → Edition e → ((first_seen (other e) (seen_of (count_of s))).0 ≡ 0 → ⊥)
      → (d : ℕ) × Stops (λ x. eqb x e) (content Top) 0 t (first_seen (other e) (seen_of (count_of s))).1 d
  count_foreign {e} ed met =
      let (o, first, seen, breaks) = own_stops ed empty_tally (start Top) 0 t (none_met ed) (rw counting at met) in
      (o.detail, rw counting ((stops_exactly (λ x. eqb x e) empty_tally Top 0 _ o.detail t).0 breaks))

-- An input that is too long breaks at 0.
pub count_long : (s : List ℕ) → longest < length s → count_of s ≡ Broken 0 fits_no_part empty_tally
unfolding count_of
count_long s long = rw (count_of, lt-leb (length s) longest long)
