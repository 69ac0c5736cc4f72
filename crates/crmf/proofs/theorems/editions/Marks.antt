-- Theorem 3. The forms of one edition alone that the walk meets in a tree that is in the grammar are the occurrences that the grammar's
-- meaning gives: both follow the choice that the first element keeps. Assumes nothing.
use Prim.Native.Nat.{ℕ}
use mathlib.Core.Path.{◌≡◌, refl, sym, ◌∙◌, ap, subst}
use mathlib.Core.Bool.{Bool, true}
use mathlib.Core.List.{List, [], ◌++◌}
use mathlib.Core.Option.{Option}
use lib.Dec.{T}
use Rattle.der.specs.meaning.Tree.{Tree, none, element}
use Rattle.crmf.specs.steps.explain.Tally.{Tally}
use Rattle.std.specs.Prelude.{Ok, Some}
use Rattle.crmf.specs.meaning.Value.{keeps}
use Rattle.crmf.specs.meaning.Notation.{mark_of, Name, Inside, free, holds, Form, Occurs, part, Parts, ◌then◌}
use Rattle.crmf.specs.meaning.Grammar.{content}
use Rattle.crmf.specs.meaning.Language.{passable, Matches, end, pass, take, choose, Within, unseen, parts, Occurrence, occurs, occurrences, occurrences_in}
use Rattle.crmf.specs.steps.grammar.Lines.{start, inside_line}
use Rattle.crmf.specs.steps.explain.Walk.{line, find_line, judged, empty_tally, walk, passes, trail}
use Rattle.crmf.proofs.theorems.explain.Passing.{judged_kept, judged_way}
use Rattle.crmf.proofs.theorems.grammar.Choices.{Choice, taking, choosing, choices, determinate_apart, only_choice}
use Rattle.crmf.proofs.theorems.lines.LinesOfParts.{Stands, stands_start, starts_past, Shows, Finds, find_line_chooses}
use Rattle.crmf.proofs.theorems.grammar.ChoicesMatch.{holds-true, Keeps, Begins, begins_past, matches_begin}
use Rattle.crmf.proofs.theorems.values.ValueRules.{way_selected}
use Rattle.crmf.proofs.theorems.explain.Accepts.{walk_complete}
use Rattle.crmf.proofs.theorems.explain.WalkSteps.{passes_in, trail_in, trail_end, trail_on}
use Rattle.crmf.proofs.theorems.explain.EveryForm.{all, is_passed, walk_passes_lem}
use Rattle.crmf.proofs.theorems.editions.ReadableSets.{first_of, unread, passed_follows, own_walk_lem}
use Rattle.crmf.proofs.theorems.editions.FirstSeen.{Edition, first_seen, after, seen_of, walk_seen}

-- the occurrences in an element that keeps a choice, and after it
abbrev kept_occurrences : (R : ℕ → Bool) (first : ℕ) (h : Choice) (c : List ℕ) (inside rest : Tree) → Keeps R h c inside rest → List Occurrence
kept_occurrences R first (taking f ps) c inside rest k = occurs (mark_of f.marking c) first ++ (occurrences_in k.within ++ occurrences k.further)
kept_occurrences R first (choosing id s ns) c inside rest k = occurrences k.further

-- the occurrences in elements, by the first of them
abbrev begun_occurrences : (R : ℕ → Bool) (ps : Parts) (t : Tree) → Begins R ps t → List Occurrence
begun_occurrences R ps none b = []
begun_occurrences R ps (element id first whole c inside rest) b = kept_occurrences R first b.choice c inside rest b.keeping

-- a part that is passed over has none
past_occurrences : (R : ℕ → Bool) (o : Occurs) (fs : List Form) (ps : Parts) (t : Tree) (ok : T (passable o)) (b : Begins R ps t)
    → begun_occurrences R (part o fs then ps) t (begins_past R o fs ps t ok b) ≡ begun_occurrences R ps t b
unfolding begins_past
past_occurrences R o fs ps none ok b = refl
past_occurrences R o fs ps (element id first whole c inside rest) ok b = refl

-- The occurrences of a meaning are those in the first element and after it.
begun : {R : ℕ → Bool} {ps : Parts} {t : Tree} (m : Matches R ps t) → occurrences m ≡ begun_occurrences R ps t (matches_begin m)
unfolding occurrences matches_begin
begun end = refl
begun {R = R} (pass {o = o} {fs = fs} {ps = ps} {t = t} ok m) = begun m ∙ sym (past_occurrences R o fs ps t ok (matches_begin m))
begun (take f among fits read kept w m) = refl
begun (choose n chosen m) = refl

module _ (R : ℕ → Bool) where
  -- the test passes over what some parts describe
  matches_pass : (t : Tree) (k : ℕ) (ps : Parts) → Stands k ps → Matches R ps t → passes k t ≡ true
  matches_pass t k ps stands m =
      let (r, passed) = walk_complete R t empty_tally k 0 ps stands m in
      let alike = (passed_follows (walk R empty_tally k 0 t) (walk all empty_tally k 0 t) (first_of (unread R) (trail k t)) r (own_walk_lem R empty_tally k 0 t) passed).1 in
      sym (walk_passes_lem empty_tally k 0 t) ∙ ap is_passed alike

  -- and over what is inside an element
  within_pass : (i : Inside) (t : Tree) → Within R i t → passes_in (inside_line i) t ≡ true
  unfolding inside_line
  within_pass free t w = refl
  within_pass (holds n) t (parts m) = rw (starts_past n, passes_in) (matches_pass t (start n) (content n) (stands_start n) m)

  -- the trail inside an element
  within_trail : (i : Inside) (t : Tree) → ((n : Name) (m : Matches R (content n) t) → trail (start n) t ≡ occurrences m) → (w : Within R i t)
      → trail_in (inside_line i) t ≡ occurrences_in w
  unfolding inside_line occurrences
  within_trail free t each unseen = refl
  within_trail (holds n) t each (parts m) = rw (starts_past n, trail_in) (each n m)

  -- at an element whose line shows the choice that it keeps
  kept_trail : (k n id first whole : ℕ) (c : List ℕ) (inside rest : Tree) (h : Choice) → find_line k id ≡ Some n → Shows h (line n)
      → (kept : Keeps R h c inside rest) → ((a : Name) (m : Matches R (content a) inside) → trail (start a) inside ≡ occurrences m)
      → ((j : ℕ) (ps : Parts) → Stands j ps → (m : Matches R ps rest) → trail j rest ≡ occurrences m)
      → trail k (element id first whole c inside rest) ≡ kept_occurrences R first h c inside rest kept
  kept_trail k n id first whole c inside rest (taking f ps) found shows kept each further =
      let x = line n in
      let fine : passes_in x.inside inside ≡ true = rw shows.entered (within_pass f.inside inside kept.within) in
      let to : judged x.judge x.next c ≡ Ok x.next =
      rw shows.judging (judged_kept f.rule x.next c (holds-true (keeps f.rule c) kept.kept)) in
      trail_on k n id first whole c inside rest found x.next fine to
      ∙ rw (shows.marked, shows.entered, within_trail f.inside inside each kept.within, further x.next ps shows.onward kept.further)
  kept_trail k n id first whole c inside rest (choosing a t ns) found shows kept each further =
      let x = line n in
      let b = kept.name in
      let (w, is, there) = (way_selected t c ns b).0 kept.way in
      let fine : passes_in x.inside inside ≡ true = rw shows.entered in
      let to : judged x.judge x.next c ≡ Ok (start b) =
      rw shows.judging (judged_way t x.next c w is ∙ ap Ok (shows.onward w b there)) in
      trail_on k n id first whole c inside rest found (start b) fine to
      ∙ rw (shows.marked, shows.entered) (further (start b) (content b) (stands_start b) kept.further)

  -- The trail over what some parts describe, from their lines on, is what occurs in it.
  pub trail_matches : (t : Tree) (k : ℕ) (ps : Parts) → Stands k ps → (m : Matches R ps t) → trail k t ≡ occurrences m
  trail_matches none k ps stands m = trail_end k ∙ sym (begun m)
  trail_matches (element id first whole c inside rest) k ps stands m =
      let b = matches_begin m in
      let only = only_choice b.choice (choices ps) id (determinate_apart ps stands.determined) b.among b.identified in
      let (n, found, shows) = subst (λ (o : Option Choice). Finds o (find_line k id)) only (find_line_chooses ps k stands id) in
      kept_trail k n id first whole c inside rest b.choice found shows b.keeping
      (λ a q. trail_matches inside (start a) (content a) (stands_start a) q) (λ j qs st q. trail_matches rest j qs st q)
      ∙ sym (begun m)

-- Theorem 3: the forms of one edition alone that the walk of a container meets in what is in the grammar are exactly those that its meaning
-- gives, in that order.
pub trail_occurrences : {R : ℕ → Bool} {t : Tree} (n : Name) (m : Matches R (content n) t) → trail (start n) t ≡ occurrences m
trail_occurrences {R} {t} n m = trail_matches R t (start n) (content n) (stands_start n) m

-- So what the walk has met of an edition is what was met before it, or else the first occurrence of the edition that the meaning gives.
pub marks_met : {R : ℕ → Bool} {t : Tree} {e : ℕ} → Edition e → (s : Tally) (around : ℕ) (n : Name) (m : Matches R (content n) t)
    → first_seen e (seen_of (walk all s (start n) around t)) ≡ after e (first_seen e s) (occurrences m)
marks_met {t = t} {e = e} ed s around n m = walk_seen ed s (start n) around t ∙ ap (after e (first_seen e s)) (trail_occurrences n m)
