-- Whether the walk that reads every form passes, and its trail, at one element: by what the search, the inside and the value say. Assumes nothing.
use Prim.Native.Nat.{ℕ}
use mathlib.Core.Path.{◌≡◌, refl}
use mathlib.Core.Bool.{Bool, true, false}
use mathlib.Core.List.{List, [], ◌++◌, append-nil}
use lib.Dec.{eqb}
use Rattle.der.specs.meaning.Tree.{Tree, none, element}
use Rattle.std.specs.Prelude.{Err, None, Ok, Some}
use Rattle.crmf.specs.meaning.Notation.{mark_of}
use Rattle.crmf.specs.meaning.Language.{Occurrence, occurs}
use Rattle.crmf.specs.steps.explain.Walk.{line, find_line, closed, judged, passes, trail, Onward, FoundLine}

-- whether the walk that reads every form passes an inside that starts at a line; 0 stands for a free inside, which passes
abbrev pub passes_in : ℕ → Tree → Bool
passes_in j t = elim (eqb j 0) [ true ↦ true | false ↦ passes j t ]

-- its trail there: none in a free inside
abbrev pub trail_in : ℕ → Tree → List Occurrence
trail_in j t = elim (eqb j 0) [ true ↦ [] | false ↦ trail j t ]

-- What the walk that reads every form does at an element: it fits no line, the walk breaks inside it, its value breaks, or the walk goes on.
pub data Way (k id : ℕ) (c : List ℕ) (inside : Tree) : Type 0 where
  lost : find_line k id ≡ None → Way k id c inside
  within : (n : ℕ) → find_line k id ≡ Some n → passes_in (line n).inside inside ≡ false → Way k id c inside
  broken : (n d : ℕ) → find_line k id ≡ Some n → passes_in (line n).inside inside ≡ true → judged (line n).judge (line n).next c ≡ Err d
      → Way k id c inside
  onward : (n next : ℕ) → find_line k id ≡ Some n → passes_in (line n).inside inside ≡ true → judged (line n).judge (line n).next c ≡ Ok next
      → Way k id c inside

-- It is one of these.
pub way : (k id : ℕ) (c : List ℕ) (inside : Tree) → Way k id c inside
way k id c inside = by_line (find_line k id) refl
  where
    by_line : (w : FoundLine) → find_line k id ≡ w → Way k id c inside
    by_line None missing = lost missing
    by_line (Some n) found = by_inside (passes_in (line n).inside inside) refl
      where
        by_value : (o : Onward) → judged (line n).judge (line n).next c ≡ o → passes_in (line n).inside inside ≡ true → Way k id c inside
        by_value (Err d) breaks whole = broken n d found whole breaks
        by_value (Ok next) on whole = onward n next found whole on

        by_inside : (b : Bool) → passes_in (line n).inside inside ≡ b → Way k id c inside
        by_inside false stops = within n found stops
        by_inside true whole = by_value (judged (line n).judge (line n).next c) refl whole

-- at a container's end the test is whether it may end there
pub passes_end : (k : ℕ) → passes k none ≡ closed k
unfolding passes
passes_end k = refl

-- and the trail is over
pub trail_end : (k : ℕ) → trail k none ≡ []
unfolding trail
trail_end k = refl

module _ (k id first whole : ℕ) (c : List ℕ) (inside rest : Tree) where
  -- an element that fits no line doesn't pass
  pub passes_lost : find_line k id ≡ None → passes k (element id first whole c inside rest) ≡ false
  unfolding passes
  passes_lost missing = rw (missing, passes)

  -- and nothing is met
  pub trail_lost : find_line k id ≡ None → trail k (element id first whole c inside rest) ≡ []
  unfolding trail
  trail_lost missing = rw (missing, trail)

module _ (k n id first whole : ℕ) (c : List ℕ) (inside rest : Tree) (found : find_line k id ≡ Some n) where
  -- an element with a break inside doesn't pass
  pub passes_inside : passes_in (line n).inside inside ≡ false → passes k (element id first whole c inside rest) ≡ false
  unfolding passes
  passes_inside inner = rw (found, inner, passes)

  -- and the trail is its form and what is met inside it
  pub trail_inside : passes_in (line n).inside inside ≡ false
      → trail k (element id first whole c inside rest) ≡ occurs (mark_of (line n).marking c) first ++ trail_in (line n).inside inside
  unfolding trail
  trail_inside inner = rw (found, inner, trail) (rw append-nil refl)

  -- an element whose value breaks its rule doesn't pass
  pub passes_breaks : (d : ℕ) → passes_in (line n).inside inside ≡ true → judged (line n).judge (line n).next c ≡ Err d
      → passes k (element id first whole c inside rest) ≡ false
  unfolding passes
  passes_breaks d inner breaks = rw (found, inner, breaks, passes)

  -- and the trail is its form and what is met inside it
  pub trail_breaks : (d : ℕ) → passes_in (line n).inside inside ≡ true → judged (line n).judge (line n).next c ≡ Err d
      → trail k (element id first whole c inside rest) ≡ occurs (mark_of (line n).marking c) first ++ trail_in (line n).inside inside
  unfolding trail
  trail_breaks d inner breaks = rw (found, inner, breaks, trail) (rw append-nil refl)

  -- an element that is passed: the test goes on after it
  pub passes_on : (next : ℕ) → passes_in (line n).inside inside ≡ true → judged (line n).judge (line n).next c ≡ Ok next
      → passes k (element id first whole c inside rest) ≡ passes next rest
  unfolding passes
  passes_on next inner on = rw (found, inner, on, passes)

  -- and the trail too
  pub trail_on : (next : ℕ) → passes_in (line n).inside inside ≡ true → judged (line n).judge (line n).next c ≡ Ok next
      → trail k (element id first whole c inside rest)
      ≡ occurs (mark_of (line n).marking c) first ++ (trail_in (line n).inside inside ++ trail next rest)
  unfolding trail
  trail_on next inner on = rw (found, inner, on, trail)
