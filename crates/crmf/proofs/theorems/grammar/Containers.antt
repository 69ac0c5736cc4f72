-- Which rows may be the parents of others: a test of the grammar that computes says that wherever a row stands below another, the other is
-- a container's, and that a row given to the element around it comes before any other row of that element. Assumes nothing.
use Prim.Native.Nat.{ℕ, zero, suc}
use mathlib.Core.Path.{◌≡◌, refl}
use mathlib.Core.Bool.{Bool, true, false, not, ◌&&◌, ◌||◌, and-eq-true_iff}
use mathlib.Core.List.{List, [], ◌∷◌}
use mathlib.Core.Option.{some}
use lib.Dec.{eqb}
use lib.ListN.{get_elem?}
use borrow.Author.Tests.{not-true}
use Rattle.crmf.specs.meaning.Notation.{among, Name, names, Inside, free, holds, Form, Occurs, once, optional, repeated, part, Parts, done, ◌then◌, select}
use Rattle.crmf.specs.meaning.Grammar.{content}
use Rattle.crmf.specs.meaning.Language.{parts_after, OneOf, first, later}
use Rattle.crmf.specs.meaning.Value.{Selector}
use Rattle.crmf.specs.meaning.Rows.{container}
use Rattle.crmf.proofs.theorems.grammar.Names.{at_each}
use Rattle.crmf.proofs.theorems.lists.Tests.{all, all_get_elem}
use Rattle.crmf.proofs.theorems.grammar.Choices.{never_both}

-- whether the row that is the parent of the rows to come is a container's: the element's own row, if it has one
abbrev pub bears_if : ℕ → Bool → Bool
bears_if kind b = elim (eqb kind 0) [ true ↦ b | false ↦ container kind ]

-- a kind of 0 leaves it
pub bears_none : (kind : ℕ) (b : Bool) → eqb kind 0 ≡ true → bears_if kind b ≡ b
bears_none kind b e = rw (e, bears_if)

-- another kind says itself
pub bears_own : (kind : ℕ) (b : Bool) → eqb kind 0 ≡ false → bears_if kind b ≡ container kind
bears_own kind b e = rw (e, bears_if)

-- the test passes along a list of forms
unfoldable pub all_forms : (Form → Bool) → List Form → Bool
all_forms test [] = true
all_forms test (f ∷ fs) = test f && all_forms test fs

-- no row stands in what a form, some parts and a container describe; q says so of the containers below
unfoldable pub quiet_in : (Name → Bool) → Inside → Bool
quiet_in q free = true
quiet_in q (holds n) = q n

unfoldable pub quiet_parts : (Name → Bool) → Parts → Bool
quiet_parts q done = true
quiet_parts q (part o fs then ps) = all_forms (λ f. eqb f.kind 0 && (eqb f.item 0 && quiet_in q f.inside)) fs && quiet_parts q ps
quiet_parts q (select id s ns) = all q ns

unfoldable pub quiet_to : ℕ → Name → Bool
quiet_to zero n = false
quiet_to (suc d) n = quiet_parts (quiet_to d) (content n)

-- No row stands in the container: no container without rows is more than eight deep.
unfoldable pub quiet : Name → Bool
quiet n = quiet_to 8 n

-- an element of some parts may give the element around it a row, which stands before any other of that element's
unfoldable pub gives_item : List Form → Bool
gives_item [] = false
gives_item (f ∷ fs) = not (eqb f.item 0) || gives_item fs

unfoldable pub early : Parts → Bool
early done = false
early (part o fs then ps) = gives_item fs || early ps
early (select id s ns) = true

unfoldable pub early_in : Inside → Bool
early_in free = false
early_in (holds n) = early (content n)

-- what is inside an element may stand there; b says whether the row above is a container's
unfoldable pub right_in : Bool → Inside → Bool
right_in b free = true
right_in b (holds n) = b || quiet n

-- A form is right below a row: its rows stand below containers' rows, and what may give the element a row comes after no row of its own.
unfoldable pub right_form : Bool → Form → Bool
right_form b f =
    (eqb f.item 0 || b)
    && ((eqb f.kind 0 || bears_if f.item b)
    && (right_in (bears_if f.kind (bears_if f.item b)) f.inside && (eqb f.kind 0 || not (early_in f.inside))))

-- Some parts are right below a row.
unfoldable pub right : Bool → Parts → Bool
right b done = true
right b (part o fs then ps) = all_forms (right_form b) fs && (not (early (parts_after o fs ps)) && right b ps)
right b (select id s ns) = b || all quiet ns

-- Every container is right below a container's row, and one without rows below any: a test that computes.
all_right : all (λ n. right true (content n) && (not (quiet n) || right false (content n))) names ≡ true
unfolding content right right_form right_in all_forms early early_in gives_item quiet quiet_to quiet_parts quiet_in container among
all_right = refl

-- one of two holds: the second if the first doesn't
pub or_second : (a b : Bool) → (a || b) ≡ true → a ≡ false → b ≡ true
or_second true b e off = never_both true refl off
or_second false b e off = e

-- a test that passes along a list of forms passes at each of them
pub forms_at : {f : Form} {fs : List Form} (test : Form → Bool) → OneOf f fs → all_forms test fs ≡ true → test f ≡ true
unfolding all_forms
forms_at {f = f} test (first {fs = fs}) passed = ((and-eq-true_iff (test f) (all_forms test fs)).0 passed).0
forms_at test (later {g = g} {fs = fs} m) passed = forms_at test m ((and-eq-true_iff (test g) (all_forms test fs)).0 passed).1

-- a form that gives a row is one of a list that does
pub item_given : {f : Form} {fs : List Form} → OneOf f fs → eqb f.item 0 ≡ false → gives_item fs ≡ true
unfolding gives_item
item_given first e = rw e
item_given (later {g = g} {fs = fs} m) e = given (not (eqb g.item 0)) (item_given m e)
  where
    given : (b : Bool) → gives_item fs ≡ true → (b || gives_item fs) ≡ true
    given true rest = refl
    given false rest = rest

-- What a right form says.
pub record Right (b : Bool) (f : Form) : Type 0 where
  pub item : (eqb f.item 0 || b) ≡ true
  pub own : (eqb f.kind 0 || bears_if f.item b) ≡ true
  pub inside : right_in (bears_if f.kind (bears_if f.item b)) f.inside ≡ true
  pub late : early_in f.inside ≡ true → eqb f.kind 0 ≡ true

-- a form that passes the test says so
pub right_form_lem : (b : Bool) (f : Form) → right_form b f ≡ true → Right b f
unfolding right_form
right_form_lem b f e =
    let last = eqb f.kind 0 || not (early_in f.inside) in
    let within = right_in (bears_if f.kind (bears_if f.item b)) f.inside in
    let below = eqb f.kind 0 || bears_if f.item b in
    let one = (and-eq-true_iff (eqb f.item 0 || b) (below && (within && last))).0 e in
    let two = (and-eq-true_iff below (within && last)).0 one.1 in
    let three = (and-eq-true_iff within last).0 two.1 in
    record { item = one.0; own = two.0; inside = three.0; late = λ y. free_own (eqb f.kind 0) three.1 y }
  where
    free_own : (k : Bool) → (k || not (early_in f.inside)) ≡ true → early_in f.inside ≡ true → k ≡ true
    free_own true w y = refl
    free_own false w y = never_both (early_in f.inside) y (not-true (early_in f.inside) w)

-- a container is right if the row above is a container's, or if it has no rows
pub right_content : (b : Bool) (n : Name) → (b || quiet n) ≡ true → right b (content n) ≡ true
right_content b n either = go b either ((and-eq-true_iff (right true (content n)) (not (quiet n) || right false (content n))).0 both)
  where
    both : (right true (content n) && (not (quiet n) || right false (content n))) ≡ true
    both = at_each (λ m. right true (content m) && (not (quiet m) || right false (content m))) all_right n

    go : (c : Bool) → (c || quiet n) ≡ true → (right true (content n) ≡ true) × ((not (quiet n) || right false (content n)) ≡ true)
        → right c (content n) ≡ true
    go true e r = r.0
    go false e r = or_second (not (quiet n)) (right false (content n)) r.1 (rw e)

-- the container that a value selects is right
pub right_way : (b : Bool) (id i : ℕ) (s : Selector) (ns : List Name) (n : Name) → right b (select id s ns) ≡ true
    → get_elem? ns i ≡ some n → right b (content n) ≡ true
unfolding right
right_way b id i s ns n e there = right_content b n (go b e)
  where
    go : (c : Bool) → (c || all quiet ns) ≡ true → (c || quiet n) ≡ true
    go true w = refl
    go false w = all_get_elem quiet n ns w i there

-- What holds of a part with the parts after it, and of those alone, holds of the parts that may come after an element of the part.
pub after_element : (P : Parts → Type 0) (o : Occurs) (fs : List Form) (ps : Parts) → P (part o fs then ps) → P ps → P (parts_after o fs ps)
after_element P once fs ps whole past = past
after_element P optional fs ps whole past = past
after_element P repeated fs ps whole past = whole

-- What right parts say: of each form, of the parts after one, and of the parts after the first.
pub record RightPart (b : Bool) (o : Occurs) (fs : List Form) (ps : Parts) : Type 0 where
  pub form : {f : Form} → OneOf f fs → Right b f
  pub late : early (parts_after o fs ps) ≡ false
  pub after_form : right b (parts_after o fs ps) ≡ true
  pub past : right b ps ≡ true

-- parts that pass the test say so
pub right_part : (b : Bool) (o : Occurs) (fs : List Form) (ps : Parts) → right b (part o fs then ps) ≡ true → RightPart b o fs ps
unfolding right
right_part b o fs ps e =
    let one = (and-eq-true_iff (all_forms (right_form b) fs) (not (early (parts_after o fs ps)) && right b ps)).0 e in
    let two = (and-eq-true_iff (not (early (parts_after o fs ps))) (right b ps)).0 one.1 in
    record {
      form = λ {f} m. right_form_lem b f (forms_at (right_form b) m one.0);
      late = not-true (early (parts_after o fs ps)) two.0;
      after_form = after_element (λ qs. right b qs ≡ true) o fs ps e two.1;
      past = two.1;
    }
