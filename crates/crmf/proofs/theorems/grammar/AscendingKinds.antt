-- Below every row but those of controls and regInfo the kinds of the rows ascend from part to part: tests of the grammar that compute, and what
-- they say of each part and of the containers inside. Assumes nothing.
use Prim.Native.Nat.{ℕ, ◌≤◌}
use mathlib.Core.Path.{◌≡◌, refl}
use mathlib.Core.Bool.{Bool, true, false, not, ◌&&◌, ◌||◌, and-eq-true_iff}
use mathlib.Core.List.{List}
use mathlib.Core.Option.{some}
use lib.Dec.{eqb, leb}
use lib.ListN.{get_elem?}
use borrow.Author.Tests.{leb-true, ne_eqb}
use Rattle.crmf.specs.meaning.Kinds as kinds
use Rattle.crmf.specs.meaning.Notation.{Name, Inside, free, holds, Form, Occurs, part, Parts, done, ◌then◌, select}
use Rattle.crmf.specs.meaning.Grammar.{content}
use Rattle.crmf.specs.meaning.Language.{parts_after, OneOf}
use Rattle.crmf.specs.meaning.Value.{Selector}
use Rattle.crmf.proofs.theorems.grammar.Names.{at_each}
use Rattle.crmf.proofs.theorems.lists.Tests.{all, all_get_elem}
use Rattle.crmf.proofs.theorems.grammar.Containers.{all_forms, forms_at, quiet, quiet_to, quiet_parts, quiet_in, or_second, after_element}

-- the rows below a row of this kind may be of any kinds, in any order
unfoldable pub loose : ℕ → Bool
loose kind = eqb kind kinds.controls || eqb kind kinds.reg_info

-- and so it is with no other kind
pub not_loose : (kind : ℕ) → (kind ≡ kinds.controls → ⊥) → (kind ≡ kinds.reg_info → ⊥) → loose kind ≡ false
unfolding loose
not_loose kind controls reg-info = rw (ne_eqb kind kinds.controls controls, ne_eqb kind kinds.reg_info reg-info)

-- whether the rows inside an element may: its own row says it, if it has one, and else b, the row above
abbrev pub loose_if : ℕ → Bool → Bool
loose_if kind b = elim (eqb kind 0) [ true ↦ b | false ↦ loose kind ]

-- a kind of 0 leaves it
pub loose_none : (kind : ℕ) (b : Bool) → eqb kind 0 ≡ true → loose_if kind b ≡ b
loose_none kind b e = rw (e, loose_if)

-- another kind says itself
pub loose_own : (kind : ℕ) (b : Bool) → eqb kind 0 ≡ false → loose_if kind b ≡ loose kind
loose_own kind b e = rw (e, loose_if)

-- an element's own row has at least this kind; if it has none, no row stands inside it
abbrev own_from : ℕ → Form → Bool
own_from low f = elim (eqb f.kind 0) [ true ↦ quiet_in quiet f.inside | false ↦ leb low f.kind ]

-- so the only row that an element in this form gives the row above is its own, of at least this kind
unfoldable pub form_from : ℕ → Form → Bool
form_from low f = eqb f.item 0 && own_from low f

-- so it is with the elements of some parts
unfoldable pub kinds_from : ℕ → Parts → Bool
kinds_from low done = true
kinds_from low (part o fs then ps) = all_forms (form_from low) fs && kinds_from low ps
kinds_from low (select id s ns) = all quiet ns

-- and those after each of them give at least its kind
unfoldable pub ascends : Parts → Bool
ascends done = true
ascends (part o fs then ps) = all_forms (λ f. form_from 0 f && kinds_from f.kind (parts_after o fs ps)) fs && ascends ps
ascends (select id s ns) = all quiet ns

-- the kinds inside an element ascend; b says that they need not
unfoldable pub ordered_in : Bool → Inside → Bool
ordered_in b free = true
ordered_in b (holds n) = b || ascends (content n)

-- so do those inside each element of some parts
unfoldable pub ordered : Bool → Parts → Bool
ordered b done = true
ordered b (part o fs then ps) = all_forms (λ f. ordered_in (loose_if f.kind (loose_if f.item b)) f.inside) fs && ordered b ps
ordered b (select id s ns) = true

-- In a container whose own kinds need not ascend, those inside its elements do: a test that computes.
ordered_loose : (n : Name) → ordered true (content n) ≡ true
unfolding content ordered ordered_in ascends kinds_from form_from loose all_forms quiet quiet_to quiet_parts quiet_in
ordered_loose = at_each (λ n. ordered true (content n)) refl

-- So it is where its own kinds ascend,
ordered_ascending : (n : Name) → ascends (content n) ≡ true → ordered false (content n) ≡ true
unfolding content ordered ordered_in ascends kinds_from form_from loose all_forms quiet quiet_to quiet_parts quiet_in
ordered_ascending n on =
    or_second (not (ascends (content n))) (ordered false (content n))
    (at_each (λ m. not (ascends (content m)) || ordered false (content m)) refl n) (rw on)

-- as they do if it has no rows.
quiet_ascends : (n : Name) → quiet n ≡ true → ascends (content n) ≡ true
unfolding content ascends kinds_from form_from all_forms quiet quiet_to quiet_parts quiet_in
quiet_ascends n on =
    or_second (not (quiet n)) (ascends (content n)) (at_each (λ m. not (quiet m) || ascends (content m)) refl n) (rw on)

-- What such a form says.
pub record FormFrom (low : ℕ) (f : Form) : Type 0 where
  pub item : eqb f.item 0 ≡ true
  pub bare : eqb f.kind 0 ≡ true → quiet_in quiet f.inside ≡ true
  pub least : eqb f.kind 0 ≡ false → low ≤ f.kind

-- a form that passes the test says so
pub form_from_lem : (low : ℕ) (f : Form) → form_from low f ≡ true → FormFrom low f
unfolding form_from
form_from_lem low f e =
    let both = (and-eq-true_iff (eqb f.item 0) (own_from low f)).0 e in
    record { item = both.0; bare = λ z. rw (z, own_from) at both.1; least = λ z. leb-true low f.kind (rw (z, own_from) at both.1) }

-- What parts say whose rows have at least a kind.
pub record FromPart (low : ℕ) (o : Occurs) (fs : List Form) (ps : Parts) : Type 0 where
  pub form : {f : Form} → OneOf f fs → FormFrom low f
  pub after_form : kinds_from low (parts_after o fs ps) ≡ true
  pub past : kinds_from low ps ≡ true

-- parts that pass the test say so
pub from_part : (low : ℕ) (o : Occurs) (fs : List Form) (ps : Parts) → kinds_from low (part o fs then ps) ≡ true → FromPart low o fs ps
unfolding kinds_from
from_part low o fs ps e =
    let both = (and-eq-true_iff (all_forms (form_from low) fs) (kinds_from low ps)).0 e in
    record {
      form = λ {f} m. form_from_lem low f (forms_at (form_from low) m both.0);
      after_form = after_element (λ qs. kinds_from low qs ≡ true) o fs ps e both.1;
      past = both.1;
    }

-- Some parts are in order: their kinds ascend, unless b says that they need not; and so do those inside their elements.
pub record Orderly (b : Bool) (ps : Parts) : Type 0 where
  pub rising : b ≡ false → ascends ps ≡ true
  pub inner : ordered b ps ≡ true

-- a container is in order if its kinds ascend, or need not
pub orderly_content : (b : Bool) (n : Name) → (b ≡ false → ascends (content n) ≡ true) → Orderly b (content n)
orderly_content true n rising = record { rising = rising; inner = ordered_loose n }
orderly_content false n rising = record { rising = rising; inner = ordered_ascending n (rising refl) }

-- so is the container that a value selects
pub orderly_way : {b : Bool} {id : ℕ} {s : Selector} {ns : List Name} (i : ℕ) (n : Name) → Orderly b (select id s ns) → get_elem? ns i ≡ some n
    → Orderly b (content n)
unfolding ascends
orderly_way {b = b} {ns = ns} i n r there = orderly_content b n (λ z. quiet_ascends n (all_get_elem quiet n ns (r.rising z) i there))

-- What parts in order say: of each form, of the parts after one, and of the parts after the first.
pub record OrderlyPart (b : Bool) (o : Occurs) (fs : List Form) (ps : Parts) : Type 0 where
  pub form : {f : Form} → OneOf f fs → b ≡ false → FormFrom 0 f × (kinds_from f.kind (parts_after o fs ps) ≡ true)
  pub inside : {f : Form} → OneOf f fs → ordered_in (loose_if f.kind (loose_if f.item b)) f.inside ≡ true
  pub after_form : Orderly b (parts_after o fs ps)
  pub past : Orderly b ps

-- parts in order say so
pub orderly_part : {b : Bool} {o : Occurs} {fs : List Form} {ps : Parts} → Orderly b (part o fs then ps) → OrderlyPart b o fs ps
unfolding ascends ordered
orderly_part {b = b} {o = o} {fs = fs} {ps = ps} r =
    let step : Form → Bool = λ f. form_from 0 f && kinds_from f.kind (parts_after o fs ps) in
    let deep : Form → Bool = λ f. ordered_in (loose_if f.kind (loose_if f.item b)) f.inside in
    let rises : b ≡ false → (all_forms step fs ≡ true) × (ascends ps ≡ true) = λ z. (and-eq-true_iff (all_forms step fs) (ascends ps)).0 (r.rising z) in
    let inner = (and-eq-true_iff (all_forms deep fs) (ordered b ps)).0 r.inner in
    let past : Orderly b ps = record { rising = λ z. (rises z).1; inner = inner.1 } in
    record {
      form = λ {f} m z.
          let both = (and-eq-true_iff (form_from 0 f) (kinds_from f.kind (parts_after o fs ps))).0 (forms_at step m (rises z).0) in
          (form_from_lem 0 f both.0, both.1);
      inside = λ {f} m. forms_at deep m inner.0;
      after_form = after_element (Orderly b) o fs ps r past;
      past = past;
    }
