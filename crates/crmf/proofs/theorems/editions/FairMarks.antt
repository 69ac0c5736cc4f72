-- The grammar's marks name edition 1 or 2 and a difference that is not 0. This is computed over the lines, so it holds of every occurrence
-- of a trail. Assumes nothing.
use Prim.Native.Nat.{ℕ}
use mathlib.Core.Path.{◌≡◌, refl}
use mathlib.Core.Bool.{Bool, true, false, not, ◌&&◌, ◌||◌, and-eq-true_iff}
use mathlib.Core.List.{List, [], ◌∷◌, ◌++◌}
use lib.Dec.{eqb}
use borrow.Author.Tests.{not-true}
use Rattle.der.specs.meaning.Tree.{Tree, none, element}
use Rattle.crmf.specs.meaning.Notation.{Mark, both, alone, mark_of}
use Rattle.crmf.specs.meaning.Language.{Occurrence, occurs}
use Rattle.crmf.specs.steps.explain.Walk.{line, trail}
use Rattle.crmf.proofs.theorems.lines.WordFields.{computed, at_mark}
use Rattle.crmf.proofs.theorems.explain.WalkSteps.{trail_in, Way, lost, within, broken, onward, way, trail_end, trail_lost, trail_inside, trail_breaks, trail_on}

-- a mark names edition 1 or 2 and a difference that is not 0
abbrev pub fair : Mark → Bool
fair both = true
fair (alone e d detail) = (eqb e 1 || eqb e 2) && not (eqb d 0)

-- The lines of the table have such marks, by computing, and so has an element in the form of the line of any number.
pub line_fair : (n : ℕ) (c : List ℕ) → fair (mark_of (line n).marking c) ≡ true
unfolding computed
line_fair = at_mark fair refl refl

-- occurrences of such marks
unfoldable pub fair_all : List Occurrence → Bool
fair_all [] = true
fair_all (o ∷ os) = fair (alone o.edition o.difference o.detail) && fair_all os

-- the first of them is of edition 1 or 2, and its difference is not 0
pub fair_first : (o : Occurrence) (os : List Occurrence) → fair_all (o ∷ os) ≡ true
    → ((eqb o.edition 1 || eqb o.edition 2) ≡ true) × (eqb o.difference 0 ≡ false) × (fair_all os ≡ true)
unfolding fair_all
fair_first o os good =
    let whole = (and-eq-true_iff (fair (alone o.edition o.difference o.detail)) (fair_all os)).0 good in
    let own = (and-eq-true_iff (eqb o.edition 1 || eqb o.edition 2) (not (eqb o.difference 0))).0 whole.0 in
    (own.0, not-true (eqb o.difference 0) own.1, whole.1)

-- two such lists together
pub fair_append : (a b : List Occurrence) → fair_all a ≡ true → fair_all b ≡ true → fair_all (a ++ b) ≡ true
unfolding fair_all
fair_append [] b left right = right
fair_append (o ∷ a) b left right =
    let f = fair (alone o.edition o.difference o.detail) in
    let whole = (and-eq-true_iff f (fair_all a)).0 left in
    (and-eq-true_iff f (fair_all (a ++ b))).1 (whole.0, fair_append a b whole.1 right)

-- what such a mark says
pub fair_occurs : (m : Mark) (p : ℕ) → fair m ≡ true → fair_all (occurs m p) ≡ true
unfolding fair_all
fair_occurs both p good = refl
fair_occurs (alone e d detail) p good = rw good

-- inside an element, from the elements inside it
pub fair_within : (j : ℕ) (t : Tree) → fair_all (trail j t) ≡ true → fair_all (trail_in j t) ≡ true
unfolding fair_all
fair_within j t inner = go (eqb j 0)
  where
    go : (b : Bool) → fair_all (elim b [ true ↦ [] | false ↦ trail j t ]) ≡ true
    go true = refl
    go false = inner

-- The occurrences of a trail are of edition 1 or 2, and their differences are never 0.
pub trail_fair : (k : ℕ) (t : Tree) → fair_all (trail k t) ≡ true
unfolding fair_all
trail_fair k none = rw trail_end
trail_fair k (element id first whole c inside rest) = go (way k id c inside) (λ j. trail_fair j inside) (λ j. trail_fair j rest)
  where
    here : ℕ → List Occurrence
    here n = occurs (mark_of (line n).marking c) first

    in_it : ℕ → List Occurrence
    in_it n = trail_in (line n).inside inside

    good : (n : ℕ) → fair_all (here n) ≡ true
    good n = fair_occurs (mark_of (line n).marking c) first (line_fair n c)

    go : Way k id c inside → ((j : ℕ) → fair_all (trail j inside) ≡ true) → ((j : ℕ) → fair_all (trail j rest) ≡ true)
        → fair_all (trail k (element id first whole c inside rest)) ≡ true
    go (lost missing) inner later = rw (trail_lost k id first whole c inside rest missing)
    go (within n found stops) inner later =
        let j = (line n).inside in
        rw (trail_inside k n id first whole c inside rest found stops)
        (fair_append (here n) (in_it n) (good n) (fair_within j inside (inner j)))
    go (broken n d found fine breaks) inner later =
        let j = (line n).inside in
        rw (trail_breaks k n id first whole c inside rest found d fine breaks)
        (fair_append (here n) (in_it n) (good n) (fair_within j inside (inner j)))
    go (onward n next found fine on) inner later =
        let j = (line n).inside in
        rw (trail_on k n id first whole c inside rest found next fine on)
        (fair_append (here n) (in_it n ++ trail next rest) (good n)
        (fair_append (in_it n) (trail next rest) (fair_within j inside (inner j)) (later next)))
