-- The walk that reads every form passes over elements that are recognised. What it has met by then is any relation between the rows counted and
-- the tallies, before and after, that holds of nothing more, of one step after another, and of an element that may stand in a line's form.
-- Assumes nothing.
use Prim.Native.Nat.{ℕ, ◌+◌}
use mathlib.Core.Path.{◌≡◌, refl, sym, ◌∙◌, subst}
use mathlib.Core.Bool.{Bool, true, false}
use mathlib.Core.List.{List}
use lib.Dec.{eqb}
use Rattle.der.specs.meaning.Tree.{Tree, none, element}
use Rattle.std.specs.Prelude.{Option, Some, None, Err, Ok}
use Rattle.std.proofs.lemmas.Option.{same_Some}
use Rattle.crmf.specs.steps.explain.Tally.{Tally}
use Rattle.crmf.specs.meaning.Notation.{mark_of}
use Rattle.crmf.specs.steps.grammar.Lines.{Line}
use Rattle.crmf.specs.steps.explain.Walk.{line, find_line, closed, judged, rows_by, with_element, walk, Onward, FoundLine, Walked, Passed}
use Rattle.crmf.specs.steps.recognise.Count.{may_stand, counts}
use Rattle.crmf.proofs.theorems.recognise.CountSteps.{not_recognised, counts_in, within}
use Rattle.crmf.proofs.theorems.recognise.CountSteps.{counts_closed, counts_open, counts_nowhere, counts_wrong, counts_breaks, counts_none, counts_next}
use Rattle.crmf.proofs.theorems.explain.Passing.{inner_walk, walk_closed, walk_next}
use Rattle.crmf.proofs.theorems.explain.EveryForm.{all, all_read}

-- What the count found for the first of elements that are recognised: its line, the rows up to its end, and the line after it.
pub record FirstCounted (e k n id first whole : ℕ) (c : List ℕ) (inside rest : Tree) : Type 0 where
  pub at : ℕ
  pub found : find_line k id ≡ Some at
  pub standing : may_stand e (line at) c whole ≡ true
  pub rows : ℕ
  pub within : counts_in e (line at).inside (n + rows_by (line at)) inside ≡ Some rows
  pub next : ℕ
  pub onward : judged (line at).judge (line at).next c ≡ Ok next
  pub same : counts e k n (element id first whole c inside rest) ≡ counts e next rows rest

module _ (e k n id first whole : ℕ) (c : List ℕ) (inside rest : Tree) where
  -- Of elements that are recognised, the first has a line in whose form it may stand, an inside that is recognised, and a good value.
  pub counted_element : (r : ℕ) → counts e k n (element id first whole c inside rest) ≡ Some r → FirstCounted e k n id first whole c inside rest
  counted_element r some = by_line (find_line k id) refl
    where
      no : counts e k n (element id first whole c inside rest) ≡ None → FirstCounted e k n id first whole c inside rest
      no nothing = not_recognised (sym nothing ∙ some)

      by_inside : (j : ℕ) → (found : find_line k id ≡ Some j) → may_stand e (line j) c whole ≡ true → (next : ℕ) → judged (line j).judge (line j).next c ≡ Ok next
          → (m : Option ℕ) → within e k n id first whole c inside rest j found ≡ m → FirstCounted e k n id first whole c inside rest
      by_inside j found good next onward None nothing = no (counts_none e k n id first whole c inside rest j found nothing)
      by_inside j found good next onward (Some m) inner =
          record {
            at = j;
            found = found;
            standing = good;
            rows = m;
            within = inner;
            next = next;
            onward = onward;
            same = counts_next e k n id first whole c inside rest j found next m good onward inner;
          }

      by_onward : (j : ℕ) → (found : find_line k id ≡ Some j) → may_stand e (line j) c whole ≡ true → (o : Onward) → judged (line j).judge (line j).next c ≡ o
          → FirstCounted e k n id first whole c inside rest
      by_onward j found good (Err d) breaks = no (counts_breaks e k n id first whole c inside rest j found d breaks)
      by_onward j found good (Ok next) onward = by_inside j found good next onward (within e k n id first whole c inside rest j found) refl

      by_test : (j : ℕ) → (found : find_line k id ≡ Some j) → (b : Bool) → may_stand e (line j) c whole ≡ b → FirstCounted e k n id first whole c inside rest
      by_test j found false wrong = no (counts_wrong e k n id first whole c inside rest j found wrong)
      by_test j found true good = by_onward j found good (judged (line j).judge (line j).next c) refl

      by_line : (f : FoundLine) → find_line k id ≡ f → FirstCounted e k n id first whole c inside rest
      by_line None missing = no (counts_nowhere e k n id first whole c inside rest missing)
      by_line (Some j) found = by_test j found (may_stand e (line j) c whole) refl

module _ (e : ℕ) (Adds : (n m : ℕ) (s r : Tally) → Type 0) (nothing : (n : ℕ) (s : Tally) → Adds n n s s)
    (on : (n m k : ℕ) (s r v : Tally) → Adds n m s r → Adds m k r v → Adds n k s v)
    (met : (x : Line) (c : List ℕ) (p w n : ℕ) (s : Tally) → may_stand e x c w ≡ true → Adds n (n + rows_by x) s (with_element x c p w s)) where
  -- how a walk passes if it goes on so
  abbrev Goes : ℕ → ℕ → Tally → Walked → Type 0
  Goes n m s w = (r : Tally) × (w ≡ Passed r) × Adds n m s r

  -- inside an element, from the elements inside it
  goes_within : (s : Tally) (i place n : ℕ) (inside : Tree) (r : ℕ) → (counts e i n inside ≡ Some r → Goes n r s (walk all s i place inside))
      → counts_in e i n inside ≡ Some r → Goes n r s (inner_walk all s i place inside)
  unfolding inner_walk
  goes_within s i place n inside r inner some = go (eqb i 0) some
    where
      go : (b : Bool) → (elim b as (λ x. Option ℕ) [ true ↦ Some n | false ↦ counts e i n inside ]) ≡ Some r
          → Goes n r s (elim b [ true ↦ Passed s | false ↦ walk all s i place inside ])
      go true free = (s, refl, subst (λ (m : ℕ). Adds n m s s) (same_Some _ _ free) (nothing n s))
      go false starts = inner starts

  -- whether the walk passes so over elements that are recognised
  abbrev Walks : Tree → Type 0
  Walks t = (s : Tally) (k around n r : ℕ) → counts e k n t ≡ Some r → Goes n r s (walk all s k around t)

  -- at the end of the elements
  walks_none : Walks none
  walks_none s k around n r some = go (closed k) refl
    where
      go : (b : Bool) → closed k ≡ b → Goes n r s (walk all s k around none)
      go true shut =
          (s, walk_closed all s k around shut, subst (λ (m : ℕ). Adds n m s s) (same_Some _ _ (sym (counts_closed e k n shut) ∙ some)) (nothing n s))
      go false gap = not_recognised (sym (counts_open e k n gap) ∙ some)

  -- at an element, from the elements inside it and those after it
  walks_element : (id first whole : ℕ) (c : List ℕ) (inside rest : Tree) → Walks inside → Walks rest → Walks (element id first whole c inside rest)
  walks_element id first whole c inside rest inner later s k around n total some =
      let f = counted_element e k n id first whole c inside rest total some in
      let x = line f.at in
      let own = n + rows_by x in
      let m = with_element x c first whole s in
      let (i, is, within) = goes_within m x.inside first own inside f.rows (inner m x.inside first own f.rows) f.within in
      let (r, passed, after-it) = later i f.next around f.rows total (sym f.same ∙ some) in (
        r,
        walk_next all s k around id first whole c inside rest f.at f.next i f.found (all_read (mark_of x.marking c)) is f.onward ∙ passed,
        on n f.rows total s i r (on n own f.rows s m i (met x c first whole n s f.standing) within) after-it,
      )

  -- The walk that reads every form passes over elements that are recognised, and goes on so.
  pub counts_walk : (t : Tree) → Walks t
  counts_walk none = walks_none
  counts_walk (element id first whole c inside rest) = walks_element id first whole c inside rest (counts_walk inside) (counts_walk rest)
