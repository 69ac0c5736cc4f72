-- The walk over one element, first of a tree and then by the places that code finds: no line, a break inside, or what its value says.
-- A line with an inside has a constructed identifier, so the inside that code walks is the tree's. Assumes nothing.
use Prim.Native.Nat.{ℕ, ◌-◌, ◌*◌, ◌/◌, ◌%◌, ◌≤◌, ◌<◌}
use mathlib.Core.Path.{◌≡◌, refl, sym, ap, ap₂, subst, ◌∙◌}
use mathlib.Core.Bool.{Bool, true, false, false≢true}
use mathlib.Core.List.{List}
use lib.Dec.{eqb}
use lib.ListN.{length}
use lib.Seq.{slice, slice_empty, take-length}
use native.Mathlib.Omega.{arith}
use borrow.Author.Tests.{eq-eqb, ne_eqb, eqb-true, le-leb, lt-leb}
use Rattle.der.specs.declared.element.reading.Element.{Element}
use Rattle.der.specs.meaning.Identifier.{constructed}
use Rattle.der.specs.meaning.Tree.{Tree, none}
use Rattle.der.specs.meaning.Bounds.{longest}
use Rattle.der.specs.steps.Reading.{reading_at, tree}
use Rattle.der.proofs.Laws.{constructed_bit_lem, element_at, tree_end, tree_at}
use Rattle.crmf.specs.declared.grammar.element.Fit.{Fit}
use Rattle.std.specs.Prelude.{Result, Err, None, Ok, Some}
use Rattle.crmf.specs.declared.explain.tally.Tally.{Tally as Kept}
use Rattle.crmf.specs.steps.explain.Tally.{Tally, tally_of}
use Rattle.crmf.specs.declared.explain.Cursor.{Cursor}
use Rattle.crmf.specs.declared.explain.Break.{Break}
use Rattle.crmf.specs.meaning.Notation.{Identifiers, octet, general_name, anything, nothing, named, mark_of, order}
use Rattle.crmf.specs.steps.grammar.Lines.{Line, start, starts_from}
use Rattle.crmf.specs.steps.explain.Walk.{line, find_line, judged, with_element, walk, every, closed, empty_tally, count_of, Onward, Walked, Passed, Broken}
use Rattle.crmf.specs.steps.grammar.Fitting.{FitsAt}
use Rattle.crmf.specs.steps.explain.Inner.{inside_walk, walk_from, stop, stepped, continued, Forward, Stepped}
use Rattle.crmf.proofs.theorems.lines.WordFields.{computed, at_line}
use Rattle.crmf.proofs.theorems.lines.Fitting.{fitted, fit_read, fit_order}
use Rattle.crmf.proofs.theorems.lines.Search.{found_names}
use Rattle.crmf.proofs.theorems.explain.Passing.{inner_walk, walk_closed, walk_open, walk_nowhere, walk_inner_broken, walk_breaks, walk_next}
use Rattle.crmf.proofs.theorems.explain.EveryForm.{all_read}

-- A line with an inside has a constructed identifier.
abbrev holds_in : Identifiers → Bool
holds_in (octet a) = eqb (a / 32 % 2) 1
holds_in general_name = false
holds_in anything = false
holds_in nothing = true

abbrev inside_octet : Line → Bool
inside_octet x = elim (eqb x.inside 0) [ true ↦ true | false ↦ holds_in x.identifiers ]

octet_at : (k : ℕ) → inside_octet (line k) ≡ true
unfolding computed
octet_at = at_line inside_octet refl

-- an element in the form of such a line is constructed
octet_constructed : (n id : ℕ) → eqb (line n).inside 0 ≡ false → named (line n).identifiers id ≡ true → constructed id ≡ true
unfolding named
octet_constructed n id some fits = go (line n).identifiers (rw (inside_octet, some) at (octet_at n)) fits
  where
    go : (i : Identifiers) → holds_in i ≡ true → named i id ≡ true → constructed id ≡ true
    go (octet a) h e =
        let same : id ≡ a = eqb-true id a e in
        constructed_bit_lem id (rw same (eqb-true (a / 32 % 2) 1 h))
    go general_name h e = absurd (false≢true h)
    go anything h e = absurd (false≢true h)
    go nothing h e = absurd (false≢true e)

-- an element in the form of a line that has an inside is constructed
pub found_constructed : (k id n : ℕ) → find_line k id ≡ Some n → eqb (line n).inside 0 ≡ false → constructed id ≡ true
found_constructed k id n e some = octet_constructed n id some (found_names k id n e)

-- the inside of an element in a line's form is the tree's, or is not looked at
within_found : (k id n : ℕ) (s : Tally) (around : ℕ) (t : Tree) → find_line k id ≡ Some n
    → inside_walk n s around (elim (constructed id) [ true ↦ t | false ↦ none ]) ≡ inside_walk n s around t
unfolding line
within_found k id n s around t e = by_inside (eqb (line n).inside 0) refl
  where
    by_inside : (b : Bool) → eqb (line n).inside 0 ≡ b
        → inside_walk n s around (elim (constructed id) [ true ↦ t | false ↦ none ]) ≡ inside_walk n s around t
    by_inside true f = rw (inside_walk, f)
    by_inside false f =
        let same : (elim (constructed id) [ true ↦ t | false ↦ none ]) ≡ t = rw (found_constructed k id n e f) in
        ap (inside_walk n s around) same

-- it is walked as the inside of a tree's element is
inner_within : (n : ℕ) (m : Tally) (p : ℕ) (t : Tree) → inner_walk every m (line n).inside p t ≡ inside_walk n m p t
unfolding inner_walk
inner_within n m p t = refl

-- the step that a value's answer makes goes forward
forward_step : (at to end : ℕ) (r : Kept) (o : Onward) → at < to → to ≤ end → r.count ≤ 2 * to → Forward at end (stepped at to r o)
forward_step at to end r (Ok n) a b c = (a, b, c)
forward_step at to end r (Err d) a b c = tt

-- The walk by places, over the element that is read from p before e.
module _ (s : List ℕ) (p e : ℕ) (some : p < e) (fits : e ≤ length s) (high : length s ≤ longest) (x : Element) (is : x ≡ reading_at s p e) where
  -- the elements from p to e are the element that is read and those after it
  pub tree_read : tree p (slice p e s)
      ≡ element_at p x (slice x.content x.end s) (tree x.content (slice x.content x.end s)) (tree x.end (slice x.end e s))
  tree_read =
      subst (λ (y : Element). tree p (slice p e s)
      ≡ element_at p y (slice y.content y.end s) (tree y.content (slice y.content y.end s)) (tree y.end (slice y.end e s))) (sym is)
      (tree_at s p e some fits high)

-- The step over the element at a cursor before e.
module _ (s : List ℕ) (c : Cursor) (e : ℕ) (some : c.at < e) (fits : e ≤ length s) (high : length s ≤ longest) where
  -- it fits no line
  pub at_misfit : find_line c.state (reading_at s c.at e).identifier ≡ None → Stepped s c e (stop c.at 1 c.tally)
  at_misfit f =
      record {
        same = λ around. rw (tree_read s c.at e some fits high (reading_at s c.at e) refl)
            (sym (walk_nowhere every (tally_of c.tally) c.state around _ c.at _ _ _ _ f));
        forward = tt;
      }

  -- it fits a line
  module _ (f : Fit) (h : FitsAt (reading_at s c.at e) c.at c.state f) where
    abbrev n : ℕ
    n = h.number

    abbrev octets : List ℕ
    octets = slice f.content f.end s

    abbrev value : Onward
    value = judged (line n).judge (line n).next octets

    -- its inside as code walks it, by the place that code has for the element
    abbrev inner : ℕ → Walked
    inner p = inside_walk n (with_element (line n) octets p (f.end - p) (tally_of c.tally)) p (tree f.content octets)

    -- the elements from its first byte on
    from_it : tree c.at (slice c.at e s)
        ≡ element_at c.at (fitted s c.at e f) octets (tree f.content octets) (tree f.end (slice f.end e s))
    from_it = tree_read s c.at e some fits high (fitted s c.at e f) (fit_read s c.at e c.state f h)

    -- the walk over its inside
    inner_walk_lem : (w : Walked) → inner f.first ≡ w
        → inner_walk every (with_element (line n) octets c.at (f.end - c.at) (tally_of c.tally)) (line n).inside c.at (elim (constructed (reading_at s c.at e).identifier) [ true ↦ tree f.content octets | false ↦ none ]) ≡ w
    inner_walk_lem w g = inner_within n _ c.at _ ∙ within_found c.state _ n _ c.at _ h.found ∙ ap inner (sym h.first) ∙ g

    -- its inside breaks
    pub at_broken : (q d : ℕ) (r : Kept)
        → inside_walk h.number (with_element (line h.number) (slice f.content f.end s) f.first (f.end - f.first) (tally_of c.tally)) f.first (tree f.content (slice f.content f.end s)) ≡ Broken q d (tally_of r)
        → Stepped s c e (stop q d r)
    at_broken q d r g =
        record {
          same = λ around. rw from_it
              (sym (walk_inner_broken every (tally_of c.tally) c.state around _ c.at _ _ _ _ n q d (tally_of r) h.found (all_read (mark_of (line n).marking octets)) (inner_walk_lem (Broken q d (tally_of r)) g)));
          forward = tt;
        }

    -- its inside passes: the walk goes on as its value says
    goes_on : (r : Kept) → inner f.first ≡ Passed (tally_of r) → (around : ℕ) (o : Onward) → value ≡ o
        → continued s e around (stepped c.at f.end r o) ≡ walk_from s c e around
    goes_on r g around (Ok m) v =
        rw from_it (sym (walk_next every (tally_of c.tally) c.state around _ c.at _ _ _ _ n m (tally_of r) h.found (all_read (mark_of (line n).marking octets)) (inner_walk_lem (Passed (tally_of r)) g) v))
    goes_on r g around (Err d) v =
        rw from_it (sym (walk_breaks every (tally_of c.tally) c.state around _ c.at _ _ _ _ n d (tally_of r) h.found (all_read (mark_of (line n).marking octets)) (inner_walk_lem (Passed (tally_of r)) g) v))

    pub at_passed : (r : Kept)
        → inside_walk h.number (with_element (line h.number) (slice f.content f.end s) f.first (f.end - f.first) (tally_of c.tally)) f.first (tree f.content (slice f.content f.end s)) ≡ Passed (tally_of r)
        → r.count ≤ 2 * f.end → (o : Result Cursor Break)
        → o ≡ stepped f.first f.end r (judged (line h.number).judge (line h.number).next (slice f.content f.end s)) → Stepped s c e o
    at_passed r g few o is =
        let o_is : o ≡ stepped c.at f.end r value = is ∙ ap (λ (p : ℕ). stepped p f.end r value) h.first in
        let order = fit_order s c.at e c.state f h some fits high in
        rw o_is
        (record {
          same = λ around. goes_on r g around value refl;
          forward = forward_step c.at f.end e r value (omega (arith, order.headed, order.ordered)) order.within few;
        })

-- at the end no element is left
pub at_end : (s : List ℕ) (p e : ℕ) → p ≡ e → tree p (slice p e s) ≡ none
at_end s p e h = rw h (ap (tree e) (slice_empty e s) ∙ tree_end e)

-- the container may end at the line, or a part is missing
module _ (s : List ℕ) (c : Cursor) (e : ℕ) (h : c.at ≡ e) (around : ℕ) where
  pub at_closed : closed c.state ≡ true → Passed (tally_of c.tally) ≡ walk_from s c e around
  at_closed closes = rw (at_end s c.at e h) (sym (walk_closed every (tally_of c.tally) c.state around closes))

  pub at_open : closed c.state ≡ false → Broken around 2 (tally_of c.tally) ≡ walk_from s c e around
  at_open opens = rw (at_end s c.at e h) (sym (walk_open every (tally_of c.tally) c.state around opens))

-- the inside of an element in a line's form, by the number that code finds for it: if that is 0 the answer is what was met before, and
-- otherwise the walk from there
module _ (k start : ℕ) (is : start ≡ (line k).inside) (s : Tally) (around : ℕ) (t : Tree) where
  pub inside_free : start ≡ 0 → Passed s ≡ inside_walk k s around t
  inside_free free = rw (inside_walk, eq-eqb _ _ (sym is ∙ free))

  pub inside_walked : (start ≡ 0 → ⊥) → (r : Walked) → r ≡ walk every s start around t → r ≡ inside_walk k s around t
  inside_walked some r walked =
      walked ∙ ap (λ (n : ℕ). walk every s n around t) is ∙ rw (inside_walk, ne_eqb _ _ (λ free. some (is ∙ free)))

-- the inside with what was met at the element itself
pub inside_met : (n p whole : ℕ) (octets : List ℕ) (m s : Tally) (t : Tree) (w : Walked) → m ≡ with_element (line n) octets p whole s → w ≡ inside_walk n m p t
    → inside_walk n (with_element (line n) octets p whole s) p t ≡ w
inside_met n p whole octets m s t w is walked = rw (← is) (sym walked)

-- the walk over a whole input, from an empty tally on
module _ (s : List ℕ) (t : Tally) (empty : t ≡ empty_tally) where
  pub count_short : length s ≤ longest → walk every t 1 0 (tree 0 (slice 0 (length s) s)) ≡ count_of s
  unfolding count_of start starts_from order
  count_short short =
      rw (count_of, le-leb _ _ short) (ap₂ (λ (m : Tally) (l : List ℕ). walk every m 1 0 (tree 0 l)) empty (take-length s))

  -- and over one that is too long
  pub count_long : longest < length s → Broken 0 1 t ≡ count_of s
  unfolding count_of
  count_long long = rw (count_of, lt-leb _ _ long) (ap (Broken 0 1) empty)
