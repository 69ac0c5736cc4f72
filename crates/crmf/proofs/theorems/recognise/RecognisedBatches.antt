-- What the recogniser answers, by the meaning alone, for every edition number: an input is recognised with n rows exactly when it is a batch of
-- the edition with n rows and no long certReqId. The count follows the edition's own walk, and the nest is that of the tree that is read.
-- Assumes nothing.
use Prim.Native.Nat.{ℕ, ◌+◌, ◌≤◌}
use native.Mathlib.Omega.{arith}
use mathlib.Core.Logic.{◌↔◌}
use mathlib.Core.Path.{◌≡◌, refl, sym, ◌∙◌, ap, subst}
use mathlib.Core.Bool.{Bool, true, false, not, and-eq-true_iff}
use mathlib.Core.List.{List}
use lib.Dec.{eqb}
use lib.ListN.{length}
use borrow.Author.Tests.{eqb-true, eq-eqb, not-true}
use Rattle.der.specs.meaning.Octets.{Octets}
use Rattle.der.specs.meaning.Tree.{Tree, none, element, WellFormed, Single, encode}
use Rattle.der.specs.meaning.Bounds.{depth, longest}
use Rattle.der.specs.steps.Reading.{tree}
use Rattle.der.proofs.Laws.{is_list_exact, is_list_single, tree_encode}
use Rattle.std.specs.Prelude.{Option, Some, None}
use Rattle.std.proofs.lemmas.Option.{same_Some}
use Rattle.crmf.specs.steps.explain.Tally.{Tally}
use Rattle.crmf.specs.meaning.Notation.{mark_of, Top}
use Rattle.crmf.specs.meaning.Grammar.{content}
use Rattle.crmf.specs.meaning.Language.{readable, Matches}
use Rattle.crmf.specs.meaning.Rows.{Row, no_extent, long_id, all_short, batch_rows}
use Rattle.crmf.specs.steps.explain.LongIds.{longer, first_long}
use Rattle.crmf.specs.steps.grammar.Lines.{start}
use Rattle.crmf.specs.steps.explain.Walk.{line, closed, rows_by, with_element, walk, empty_tally, Walked, Passed}
use Rattle.crmf.specs.steps.rows.Fill.{rows_of_input}
use Rattle.crmf.specs.steps.recognise.Count.{counts, recognised}
use Rattle.crmf.proofs.theorems.recognise.CountSteps.{not_recognised, counts_in, counts_closed, counts_open}
use Rattle.crmf.proofs.theorems.recognise.CountedWalks.{FirstCounted, counted_element}
use Rattle.crmf.proofs.theorems.recognise.RecognisedCounts.{one_matched, recognised_sound}
use Rattle.crmf.proofs.theorems.recognise.PassedCounts.{walk_recognised}
use Rattle.crmf.proofs.theorems.explain.Passing.{inner_walk, walk_closed, walk_next}
use Rattle.crmf.proofs.theorems.explain.Accepts.{accepts}
use Rattle.crmf.proofs.theorems.explain.LongIds.{met_long, walk_long, long_none}
use Rattle.crmf.proofs.theorems.rows.RowsOfLines.{met_count, walk_counts}
use Rattle.crmf.proofs.theorems.rows.FilledRows.{rows_of}

-- Octets are a batch of an edition whose certReqIds have at most 8 content octets: they are not too many and the encoding of a well-formed
-- element that the edition's grammar describes.
pub record ShortBatch (e : ℕ) (s : List ℕ) : Type 0 where
  pub fits : length s ≤ longest
  pub nest : Tree
  pub formed : WellFormed depth 0 nest
  pub single : Single nest
  pub encoded : encode nest ≡ s
  pub batch : Matches (λ x. eqb x e) (content Top) nest
  pub short : all_short (batch_rows batch) ≡ true

-- the forms that an edition reads
abbrev own : ℕ → ℕ → Bool
own e x = eqb x e

-- How a walk passes as the count goes from n rows to m: with as many rows, and no long certReqId more than before.
record Passes (n m : ℕ) (s : Tally) (w : Walked) : Type 0 where
  seen : Tally
  passed : w ≡ Passed seen
  rows : seen.count + n ≡ s.count + m
  short : seen.long.whole ≡ s.long.whole

-- whether the edition's own walk passes so over elements that are counted
abbrev Counted : ℕ → Tree → Type 0
Counted e t = (s : Tally) (k around n m : ℕ) → counts e k n t ≡ Some m → Passes n m s (walk (own e) s k around t)

-- where there is nothing more to count
counted_stay : {n m : ℕ} (s : Tally) {w : Walked} → w ≡ Passed s → Some n ≡ Some m → Passes n m s w
counted_stay s passed same = record { seen = s; passed = passed; rows = omega (arith, same_Some _ _ same); short = refl }

-- at the end of the elements
counted_end : (e : ℕ) → Counted e none
counted_end e s k around n m some = go (closed k) refl
  where
    go : (b : Bool) → closed k ≡ b → Passes n m s (walk (own e) s k around none)
    go true shut = counted_stay s (walk_closed (own e) s k around shut) (sym (counts_closed e k n shut) ∙ some)
    go false gap = not_recognised (sym (counts_open e k n gap) ∙ some)

-- inside an element, from the elements inside it
counted_within : (e : ℕ) (inside : Tree) → Counted e inside → (s : Tally) (i place n m : ℕ) → counts_in e i n inside ≡ Some m
    → Passes n m s (inner_walk (own e) s i place inside)
unfolding inner_walk
counted_within e inside inner s i place n m some = go (eqb i 0) some
  where
    go : (b : Bool) → (elim b as (λ x. Option ℕ) [ true ↦ Some n | false ↦ counts e i n inside ]) ≡ Some m
        → Passes n m s (elim b [ true ↦ Passed s | false ↦ walk (own e) s i place inside ])
    go true free = counted_stay s refl free
    go false starts = inner s i place n m starts

-- at an element, from the elements inside it and those after it
counted_first : (e id first whole : ℕ) (c : List ℕ) (inside rest : Tree) → Counted e inside → Counted e rest
    → Counted e (element id first whole c inside rest)
counted_first e id first whole c inside rest inner later s k around n total some =
    go (counted_element e k n id first whole c inside rest total some)
  where
    go : FirstCounted e k n id first whole c inside rest → Passes n total s (walk (own e) s k around (element id first whole c inside rest))
    go f =
        let x = line f.at in
        let m = with_element x c first whole s in
        let (read, brief) = (and-eq-true_iff (readable (own e) (mark_of x.marking c)) (not (long_id x.kind whole))).0 f.standing in
        let unmet : longer (s.long.whole, s.long.place) x.kind first whole ≡ (s.long.whole, s.long.place) =
        rw (longer, not-true (long_id x.kind whole) brief) in
        let within = counted_within e inside inner m x.inside first (n + rows_by x) f.rows f.within in
        let after = later within.seen f.next around f.rows total (sym f.same ∙ some) in
        record {
          seen = after.seen;
          passed = walk_next (own e) s k around id first whole c inside rest f.at f.next within.seen f.found read within.passed f.onward
              ∙ after.passed;
          rows = omega (arith, met_count x c first whole s, within.rows, after.rows);
          short = after.short ∙ within.short ∙ ap (λ (h : ℕ × ℕ). h.0) (met_long x c first whole s ∙ unmet);
        }

-- An edition's own walk passes over elements that are counted, with as many rows and no long certReqId.
counted_passes : (e : ℕ) (t : Tree) → Counted e t
counted_passes e none = counted_end e
counted_passes e (element id first whole c inside rest) =
    counted_first e id first whole c inside rest (counted_passes e inside) (counted_passes e rest)

-- The tree that is read from the encoding of a well-formed tree is that tree.
pub read_back : (s : List ℕ) (t : Tree) → length s ≤ longest → WellFormed depth 0 t → encode t ≡ s → tree 0 s ≡ t
read_back s t fits formed encoded =
    let size : length (encode t) ≤ longest = omega (arith, ap length encoded, fits) in
    rw encoded at (tree_encode depth 0 t formed size)

module _ (e : ℕ) (s : List ℕ) (octets : Octets s) where
  -- What is recognised is such a batch, with as many rows.
  recognised_batch : (n : ℕ) → recognised e s ≡ Some n → (b : ShortBatch e s) × (length (batch_rows b.batch) ≡ n)
  unfolding empty_tally batch_rows content
  recognised_batch n is =
      let (sound, counted) = recognised_sound e n s is in
      let listed = (is_list_exact depth 0 s octets).0 sound in
      let same = read_back s listed.tree listed.short listed.formed listed.encoded in
      let p = counted_passes e listed.tree empty_tally (start Top) 0 0 n (rw same at counted) in
      let m : Matches (own e) (content Top) listed.tree = (accepts (own e) empty_tally Top 0 listed.tree).0 (p.seen, p.passed) in
      let long = walk_long (own e) Top m empty_tally p.seen 0 0 0 no_extent p.passed in
      let batch : ShortBatch e s = record {
        fits = listed.short;
        nest = listed.tree;
        formed = listed.formed;
        single = one_matched m;
        encoded = listed.encoded;
        batch = m;
        short = sym (long_none (batch_rows m)) ∙ ap (λ (h : ℕ × ℕ). eqb h.0 0) long ∙ eq-eqb p.seen.long.whole 0 p.short;
      } in
      (batch, omega (arith, walk_counts (own e) Top m empty_tally p.seen 0 0 0 no_extent p.passed, p.rows))

  -- The rows that are found in such a batch are the derivation's.
  pub batch_rows_lem : (b : ShortBatch e s) → rows_of_input s ≡ batch_rows b.batch
  batch_rows_lem b =
      subst (λ (t : Tree). (m : Matches (own e) (content Top) t) → rows_of_input s ≡ batch_rows m)
      (read_back s b.nest b.fits b.formed b.encoded) (λ m. rows_of s b.fits m) b.batch

  -- Such a batch is recognised, with as many rows.
  batch_recognised : (b : ShortBatch e s) → recognised e s ≡ Some (length (batch_rows b.batch))
  batch_recognised b =
      let same = read_back s b.nest b.fits b.formed b.encoded in
      let sound = (is_list_exact depth 0 s octets).1 (record { short = b.fits; tree = b.nest; formed = b.formed; encoded = b.encoded }) in
      let ends = is_list_single s sound (subst Single (sym same) b.single) in
      let (r, passed) = (accepts (own e) empty_tally Top 0 (tree 0 s)).1 (subst (Matches (own e) (content Top)) (sym same) b.batch) in
      let brief = eqb-true (first_long (0, 0) (rows_of_input s)).0 0 (long_none (rows_of_input s) ∙ ap all_short (batch_rows_lem b) ∙ b.short) in
      let (n, is) = walk_recognised e s ends r passed brief in
      let (found, counted) = recognised_batch n is in
      let as_many : n ≡ length (batch_rows b.batch) =
      sym counted ∙ ap (λ (rs : List Row). length rs) (sym (batch_rows_lem found) ∙ batch_rows_lem b) in
      is ∙ ap Some as_many

  -- An input is recognised with n rows exactly when it is such a batch with n rows.
  pub recognised_exact : (n : ℕ) → (recognised e s ≡ Some n) ↔ ((b : ShortBatch e s) × (length (batch_rows b.batch) ≡ n))
  recognised_exact n = (recognised_batch n, λ (b, counted). batch_recognised b ∙ ap Some counted)

  -- Any other input is unrecognised.
  pub unrecognised_exact : (recognised e s ≡ None) ↔ (ShortBatch e s → ⊥)
  unrecognised_exact = (λ nothing b. not_recognised (sym nothing ∙ batch_recognised b), λ other. go other (recognised e s) refl)
    where
      go : (ShortBatch e s → ⊥) → (r : Option ℕ) → recognised e s ≡ r → recognised e s ≡ None
      go other None is = is
      go other (Some n) is = absurd (other (recognised_batch n is).0)
