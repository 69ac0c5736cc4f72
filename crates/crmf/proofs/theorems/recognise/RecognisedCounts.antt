-- What the recogniser says of a batch: the walk that reads every form passes with the same rows, and has met no long certReqId and no form
-- of the other edition. Assumes nothing.
use Prim.Native.Nat.{ℕ, ◌+◌, ◌≤◌}
use native.Mathlib.Omega.{arith}
use mathlib.Core.Path.{◌≡◌, refl, sym, ◌∙◌, ap}
use mathlib.Core.Bool.{Bool, true, false, not, and-eq-true_iff}
use mathlib.Core.List.{List}
use lib.Dec.{eqb}
use lib.ListN.{length}
use borrow.Author.Tests.{eqb-true, not-true}
use Rattle.der.specs.steps.Nest.{End}
use Rattle.der.specs.meaning.Tree.{Tree, none, Single}
use Rattle.der.specs.meaning.Bounds.{depth, longest}
use Rattle.der.specs.steps.Explain.{walk_at}
use Rattle.der.specs.steps.Recognise.{is_list}
use Rattle.der.specs.steps.Reading.{tree}
use Rattle.der.proofs.Laws.{is_list_short, is_list_single, single_element}
use Rattle.std.specs.Prelude.{Some, None}
use Rattle.crmf.specs.steps.explain.Tally.{Tally}
use Rattle.crmf.specs.meaning.Notation.{Mark, both, alone, mark_of, Top, Form, once, part, done, ◌then◌}
use Rattle.crmf.specs.meaning.Grammar.{content}
use Rattle.crmf.specs.meaning.Language.{readable, occurs, Matches, end, pass, take}
use Rattle.crmf.specs.meaning.Rows.{long_id}
use Rattle.crmf.specs.steps.explain.LongIds.{longer}
use Rattle.crmf.specs.steps.grammar.Lines.{Line, start}
use Rattle.crmf.specs.steps.explain.Walk.{rows_by, with_element, walk, empty_tally, count_of, Passed}
use Rattle.crmf.specs.steps.recognise.Count.{may_stand, counts, counts_at, recognised}
use Rattle.crmf.proofs.theorems.recognise.CountSteps.{not_recognised}
use Rattle.crmf.proofs.theorems.recognise.CountedWalks.{counts_walk}
use Rattle.crmf.proofs.theorems.explain.EveryForm.{all}
use Rattle.crmf.proofs.theorems.editions.ReadableSets.{first_of}
use Rattle.crmf.proofs.theorems.editions.FirstSeen.{Edition, first_edition, second_edition, first_seen, after, after_none, after_known, after_unknown, met_seen}
use Rattle.crmf.proofs.theorems.editions.OneEdition.{other, other_edition_lem}
use Rattle.crmf.proofs.theorems.rows.RowsOfLines.{met_count}
use Rattle.crmf.proofs.theorems.explain.LongIds.{met_long}
use Rattle.crmf.proofs.theorems.explain.Accepts.{accepts_sound}
use Rattle.crmf.proofs.theorems.explain.WholeInput.{count_whole}

-- a form that an edition reads leaves what is known of the other's
own_after : {e : ℕ} → Edition e → (h : ℕ × ℕ) (m : Mark) (p : ℕ) → readable (λ y. eqb y e) m ≡ true → after (other e) h (occurs m p) ≡ h
unfolding first_of
own_after {e} ed h both p read = after_none (other e) h
own_after {e} ed h (alone f d detail) p read = rw (eqb-true f e read) (go ed (eqb h.0 0) refl)
  where
    go : {e : ℕ} → Edition e → (b : Bool) → eqb h.0 0 ≡ b → after (other e) h (occurs (alone e d detail) p) ≡ h
    go {e} known_edition false known = after_known (other e) h _ known
    go first_edition true unknown = after_unknown 2 h _ unknown
    go second_edition true unknown = after_unknown 1 h _ unknown

-- How what was met goes on from s to r, as the count goes from n rows to m: by as many rows, and with nothing that the edition refuses.
record Adds (e n m : ℕ) (s r : Tally) : Type 0 where
  rows : r.count + n ≡ s.count + m
  short : r.long.whole ≡ s.long.whole
  clear : first_seen (other e) r ≡ first_seen (other e) s

-- an element that may stand in a line's form, met
adds_met : {e : ℕ} → Edition e → (x : Line) (c : List ℕ) (p w n : ℕ) (s : Tally) → may_stand e x c w ≡ true → Adds e n (n + rows_by x) s (with_element x c p w s)
adds_met {e} ed x c p w n s standing =
    let good = (and-eq-true_iff (readable (λ y. eqb y e) (mark_of x.marking c)) (not (long_id x.kind w))).0 standing in
    let unmet : longer (s.long.whole, s.long.place) x.kind p w ≡ (s.long.whole, s.long.place) = rw (longer, not-true (long_id x.kind w) good.1) in
    record {
      rows = omega (arith, met_count x c p w s);
      short = ap (λ (h : ℕ × ℕ). h.0) (met_long x c p w s ∙ unmet);
      clear = met_seen (other_edition_lem ed) x c p w s ∙ own_after ed (first_seen (other e) s) (mark_of x.marking c) p good.0;
    }

-- nothing more
adds_none : (e n : ℕ) (s : Tally) → Adds e n n s s
adds_none e n s = record { rows = refl; short = refl; clear = refl }

-- one step and another
adds_on : (e n m k : ℕ) (s r v : Tally) → Adds e n m s r → Adds e m k r v → Adds e n k s v
adds_on e n m k s r v g h = record { rows = omega (arith, g.rows, h.rows); short = h.short ∙ g.short; clear = h.clear ∙ g.clear }

-- The walk that reads every form passes over elements that are recognised, with as many rows; it meets no long certReqId and no form of the
-- other edition.
recognised_passes : {e : ℕ} → Edition e → (t : Tree) (s : Tally) (k around n r : ℕ) → counts e k n t ≡ Some r
    → (v : Tally) × (walk all s k around t ≡ Passed v) × Adds e n r s v
recognised_passes {e} ed = counts_walk e (Adds e) (adds_none e) (adds_on e) (adds_met ed)

-- no parts describe no elements
none_left : {R : ℕ → Bool} {t : Tree} → Matches R done t → t ≡ none
none_left end = refl

-- one needed part describes a single element
pub one_matched : {R : ℕ → Bool} {fs : List Form} {t : Tree} → Matches R (part once fs then done) t → Single t
one_matched (pass ok m) = absurd ok
one_matched (take f among fits read kept within m) = (single_element _ _ _ _ _ _).1 (none_left m)

-- What is recognised from the grammar's top on is a single element.
counts_single : {e : ℕ} → Edition e → (n m : ℕ) (t : Tree) → counts e (start Top) n t ≡ Some m → Single t
unfolding content
counts_single ed n m t some =
    let (r, passed, more) = recognised_passes ed t empty_tally (start Top) 0 n m some in
    one_matched (accepts_sound all empty_tally r Top 0 t passed)

-- an input that is recognised has no fault in its nest
pub recognised_sound : (e n : ℕ) (s : List ℕ) → recognised e s ≡ Some n → (is_list depth s ≡ true) × (counts e (start Top) 0 (tree 0 s) ≡ Some n)
unfolding recognised counts_at
recognised_sound e n s is = go (is_list depth s) refl
  where
    go : (b : Bool) → is_list depth s ≡ b → (is_list depth s ≡ true) × (counts e (start Top) 0 (tree 0 s) ≡ Some n)
    go true sound = (sound, sym (rw (recognised, counts_at, sound)) ∙ is)
    go false faulty = let nothing : recognised e s ≡ None = rw (recognised, counts_at, faulty) in not_recognised (sym nothing ∙ is)

-- What the recogniser says of an input with n rows: it is one element that is not too long, without a fault in its nest, and the walk
-- that reads every form passes with as many rows, no long certReqId and no form of the other edition.
pub record Quick (e : ℕ) (s : List ℕ) (n : ℕ) : Type 0 where
  pub fits : length s ≤ longest
  pub ends : walk_at s 0 (length s) ≡ End (length s)
  pub seen : Tally
  pub passed : count_of s ≡ Passed seen
  pub rows : seen.count ≡ n
  pub short : seen.long.whole ≡ 0
  pub clear : (first_seen (other e) seen).0 ≡ 0

-- At first no form of the other edition was met.
pub none_met : {e : ℕ} → Edition e → (first_seen (other e) empty_tally).0 ≡ 0
unfolding empty_tally
none_met first_edition = refl
none_met second_edition = refl

-- An input that is recognised with n rows is such an input.
pub recognised_walk : {e : ℕ} → Edition e → (s : List ℕ) (n : ℕ) → recognised e s ≡ Some n → Quick e s n
unfolding empty_tally
recognised_walk {e} ed s n is =
    let (sound, counted) = recognised_sound e n s is in
    let (r, passed, g) = recognised_passes ed (tree 0 s) empty_tally (start Top) 0 0 n counted in
    let fits = is_list_short depth s sound in
    record {
      fits = fits;
      ends = is_list_single s sound (counts_single ed 0 n (tree 0 s) counted);
      seen = r;
      passed = count_whole s fits ∙ passed;
      rows = omega (arith, g.rows);
      short = g.short;
      clear = ap (λ (h : ℕ × ℕ). h.0) g.clear ∙ none_met ed;
    }
