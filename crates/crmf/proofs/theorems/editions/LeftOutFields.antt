-- Document 02's A4. A fourth difference occurs exactly where a row shows a field that edition 2 has left out: a test of the grammar that computes
-- says that a form is marked so exactly by its kind. Assumes nothing.
use Prim.Native.Nat.{ℕ, ◌+◌}
use mathlib.Core.Path.{◌≡◌, refl, sym, ap, subst, ◌∙◌}
use mathlib.Core.Logic.{◌↔◌, ◌⊎◌, inl, inr}
use mathlib.Core.Bool.{Bool, true, false, not, ◌&&◌, ◌||◌, and-eq-true_iff}
use mathlib.Core.List.Memᴰ
use mathlib.Core.List.{List, [], ◌∷◌, Memᴰ}
use lib.Dec.{eqb}
use lib.Seq.{slice}
use borrow.Author.Tests.{eqb-true, eq-eqb, not-true}
use Rattle.der.specs.meaning.Tree.{Tree, encode, WellFormed}
use Rattle.crmf.specs.meaning.Details.{fits_no_part, value_broken}
use Rattle.crmf.specs.meaning.Kinds as kinds
use Rattle.crmf.specs.meaning.Value.{is_two}
use Rattle.crmf.specs.meaning.Notation.{among, Mark, both, alone, Marking, whatever, unless_two, mark_of, names, Top, Form}
use Rattle.crmf.specs.meaning.Grammar.{content}
use Rattle.crmf.specs.meaning.Language.{Matches, Occurrence, occurs, occurrences}
use Rattle.crmf.specs.meaning.Rows.{Row, header_length, no_extent, batch_rows}
use Rattle.crmf.specs.meaning.LeftOut.{omitted, row_content, LeftOut, one_of_four, other_version}
use Rattle.crmf.proofs.theorems.lists.Tests.{all, all_among}
use Rattle.crmf.proofs.theorems.values.ValueRules.{same_octets, same_itself}
use Rattle.crmf.proofs.theorems.grammar.Choices.{never_both}
use Rattle.crmf.proofs.theorems.grammar.Containers.{all_forms}
use Rattle.crmf.proofs.theorems.grammar.ChoicesMatch.{holds-true, true_holds}
use Rattle.crmf.proofs.theorems.rows.TakenElements.{encoded_stands, TakenElement, takes, forms_pass, content_passes, occurs_taken, taken_occurs, ShownBy, row_taken, taken_row, taken_content}

-- the kinds of the five fields
abbrev five : ℕ → Bool
five = among (kinds.version ∷ omitted)

-- whether a marking is right for a kind: the four have theirs, a version has its own, and no other kind has either
abbrev marked_by : Marking → ℕ → Bool
marked_by (whatever both) kind = not (five kind)
marked_by (whatever (alone e d detail)) kind = elim (eqb d 4) [ true ↦ eqb e 1 && (eqb detail fits_no_part && among omitted kind) | false ↦ not (five kind) ]
marked_by (unless_two both) kind = false
marked_by (unless_two (alone e d detail)) kind = eqb e 1 && (eqb d 4 && (eqb detail value_broken && eqb kind kinds.version))

-- whether a form is marked by its kind, and gives the element around it none of these kinds
abbrev rightly : Form → Bool
rightly f = marked_by f.marking f.kind && not (five f.item)

-- every form of the grammar is: a test that computes
all_rightly : all (λ n. forms_pass rightly (content n)) names ≡ true
unfolding forms_pass all_forms content among
all_rightly = refl

-- the four have kinds, and none of them is a version's
four_some : (kind : ℕ) → among omitted kind ≡ true → (eqb kind 0 ≡ false) × (eqb kind kinds.version ≡ false)
four_some kind one = (not-true _ (all_among (λ k. not (eqb k 0)) omitted refl kind one), not-true _ (all_among (λ k. not (eqb k kinds.version)) omitted refl kind one))

-- they are among the five
four_five : (kind : ℕ) → among omitted kind ≡ true → five kind ≡ true
unfolding among
four_five kind one = go (eqb kind kinds.version)
  where
    go : (b : Bool) → (b || among omitted kind) ≡ true
    go true = refl
    go false = one

-- and a version's is
version_five : (kind : ℕ) → eqb kind kinds.version ≡ true → five kind ≡ true
unfolding among
version_five kind is = rw is

-- a row that shows a field that is left out has one of the five kinds
left_out_five : (s : List ℕ) (r : Row) (detail : ℕ) → LeftOut s r detail → five r.kind ≡ true
left_out_five s r detail (one_of_four kind) = four_five r.kind (holds-true (among omitted r.kind) kind)
left_out_five s r detail (other_version kind octets) = version_five r.kind (eq-eqb r.kind kinds.version kind)

-- whether a mark is a fourth difference's
abbrev is_fourth : Mark → Bool
is_fourth both = false
is_fourth (alone e d detail) = eqb d 4

-- How the elements in a form are marked by its kind: as the four are, as a version is, or as any other is, by another difference or none.
data MarkedAs : Marking → ℕ → Type 0 where
  four : {kind : ℕ} → among omitted kind ≡ true → MarkedAs (whatever (alone 1 4 fits_no_part)) kind
  version : {kind : ℕ} → kind ≡ kinds.version → MarkedAs (unless_two (alone 1 4 value_broken)) kind
  other : {m : Mark} {kind : ℕ} → five kind ≡ false → is_fourth m ≡ false → MarkedAs (whatever m) kind

-- a form that passes the test says so
marked_as : (k : Marking) (kind : ℕ) → marked_by k kind ≡ true → MarkedAs k kind
marked_as (whatever both) kind right = other (not-true (five kind) right) refl
marked_as (whatever (alone e d detail)) kind right = go (eqb d 4) refl
  where
    go : (b : Bool) → eqb d 4 ≡ b → MarkedAs (whatever (alone e d detail)) kind
    go true is =
        let (first, more) = (and-eq-true_iff (eqb e 1) _).0 (rw (is, marked_by) at right) in
        let (free, one) = (and-eq-true_iff (eqb detail fits_no_part) _).0 more in
        rw (eqb-true e 1 first, eqb-true d 4 is, eqb-true detail fits_no_part free) (four one)
    go false is = other (not-true (five kind) (rw (is, marked_by) at right)) is
marked_as (unless_two both) kind right = never_both false right refl
marked_as (unless_two (alone e d detail)) kind right =
    let (first, more) = (and-eq-true_iff (eqb e 1) _).0 right in
    let (number, rest) = (and-eq-true_iff (eqb d 4) _).0 more in
    let (broken, own) = (and-eq-true_iff (eqb detail value_broken) _).0 rest in
    rw (eqb-true e 1 first, eqb-true d 4 number, eqb-true detail value_broken broken) (version (eqb-true kind kinds.version own))

-- a fourth difference, at a place with a detail
abbrev pub fourth : (place detail : ℕ) → Occurrence
fourth place detail = record { place = place; edition = 1; difference = 4; detail = detail }

-- an element at which one occurs has a kind
occurs_some : {k : Marking} {kind : ℕ} (p q detail : ℕ) (c : List ℕ) → MarkedAs k kind → Memᴰ (fourth p detail) (occurs (mark_of k c) q) → eqb kind 0 ≡ false
occurs_some {kind = kind} p q detail c (four one) at = (four_some kind one).0
occurs_some p q detail c (version own) at = rw own
occurs_some p q detail c (other {m = both} none no-fourth) at = absurd (Memᴰ.not-nil at)
occurs_some p q detail c (other {m = alone e d y} none no-fourth) at =
    never_both (eqb d 4) (eq-eqb d 4 (sym (ap (λ (o : Occurrence). o.difference) (Memᴰ.eq_of_singleton at)))) no-fourth

-- An element that is taken, and the row that shows it.
module _ (s : List ℕ) (x : TakenElement) (r : Row) (shows : ShownBy x r) (stands : slice (x.first + header_length x.whole x.octets) (x.first + x.whole) s ≡ x.octets) where
  -- the row's content octets are the element's
  content_is : row_content s r ≡ x.octets
  content_is = rw (shows.content, shows.first, shows.whole) stands

  -- so they are those of 2 exactly if the test says so
  not_two : (row_content s r ≡ 0x02 ∷ [] → ⊥) → is_two x.octets ≡ false
  unfolding is_two
  not_two unlike = go (is_two x.octets) refl
    where
      go : (b : Bool) → is_two x.octets ≡ b → is_two x.octets ≡ false
      go true is = absurd (unlike (content_is ∙ same_octets x.octets (0x02 ∷ []) is))
      go false is = is

  other_octets : is_two x.octets ≡ false → row_content s r ≡ 0x02 ∷ [] → ⊥
  unfolding is_two
  other_octets is two = never_both (is_two x.octets) (ap is_two (sym content_is ∙ two) ∙ same_itself (0x02 ∷ [])) is

  -- A fourth difference that occurs at the element: the row shows a field that is left out,
  occurs_left_out : {k : Marking} → MarkedAs k x.form.kind → (p detail : ℕ) → Memᴰ (fourth p detail) (occurs (mark_of k x.octets) x.first)
      → (r.first ≡ p) × LeftOut s r detail
  occurs_left_out (four one) p detail at =
      let is = Memᴰ.eq_of_singleton at in (
        shows.first ∙ sym (ap (λ (o : Occurrence). o.place) is),
        subst (LeftOut s r) (sym (ap (λ (o : Occurrence). o.detail) is)) (one_of_four (true_holds (among omitted r.kind) (ap (among omitted) shows.kind ∙ one))),
      )
  occurs_left_out (version own) p detail at = go (is_two x.octets) refl at
    where
      go : (b : Bool) → is_two x.octets ≡ b → Memᴰ (fourth p detail) (occurs (elim b [ true ↦ both | false ↦ alone 1 4 value_broken ]) x.first)
          → (r.first ≡ p) × LeftOut s r detail
      go true two there = absurd (Memᴰ.not-nil there)
      go false is there =
          let same = Memᴰ.eq_of_singleton there in (
            shows.first ∙ sym (ap (λ (o : Occurrence). o.place) same),
            subst (LeftOut s r) (sym (ap (λ (o : Occurrence). o.detail) same)) (other_version (shows.kind ∙ own) (other_octets is)),
          )
  occurs_left_out (other {m = both} none no-fourth) p detail at = absurd (Memᴰ.not-nil at)
  occurs_left_out (other {m = alone e d y} none no-fourth) p detail at =
      let number : d ≡ 4 = sym (ap (λ (o : Occurrence). o.difference) (Memᴰ.eq_of_singleton at)) in
      never_both (eqb d 4) (eq-eqb d 4 number) no-fourth

  -- and if it shows one, a fourth difference occurs.
  left_out_occurs : {k : Marking} → MarkedAs k x.form.kind → (detail : ℕ) → LeftOut s r detail
      → Memᴰ (fourth r.first detail) (occurs (mark_of k x.octets) x.first)
  left_out_occurs (four one) detail (one_of_four kind) = Memᴰ.head (ap (λ (q : ℕ). fourth q fits_no_part) shows.first)
  left_out_occurs (four one) detail (other_version kind octets) = never_both (eqb x.form.kind kinds.version) (eq-eqb x.form.kind kinds.version (sym shows.kind ∙ kind)) (four_some x.form.kind one).1
  left_out_occurs (version own) detail (one_of_four kind) =
      let one = ap (among omitted) (sym shows.kind) ∙ holds-true (among omitted r.kind) kind in
      never_both (eqb x.form.kind kinds.version) (eq-eqb x.form.kind kinds.version own) (four_some x.form.kind one).1
  left_out_occurs (version own) detail (other_version kind octets) =
      subst (λ (b : Bool). Memᴰ (fourth r.first value_broken) (occurs (elim b [ true ↦ both | false ↦ alone 1 4 value_broken ]) x.first)) (sym (not_two octets))
      (Memᴰ.head (ap (λ (q : ℕ). fourth q value_broken) shows.first))
  left_out_occurs (other none no-fourth) detail left_out = never_both (five x.form.kind) (ap five (sym shows.kind) ∙ left_out_five s r detail left_out) none

module _ {R : ℕ → Bool} {t : Tree} (m : Matches R (content Top) t) (left : ℕ) (formed : WellFormed left 0 t) (s : List ℕ) (encoded : encode t ≡ s) where
  -- how the form of an element is marked by its kind, and that it gives the element around it none of the five
  marked : (x : TakenElement) → Memᴰ x (takes m) → MarkedAs x.form.marking x.form.kind × (five x.form.item ≡ false)
  marked x at =
      let (own, item) = (and-eq-true_iff (marked_by x.form.marking x.form.kind) _).0 (content_passes rightly all_rightly Top m x at) in
      (marked_as x.form.marking x.form.kind own, not-true (five x.form.item) item)

  -- A fourth difference occurs at a place exactly if a row there shows a field that is left out.
  pub fourth_exactly : (p detail : ℕ) → Memᴰ (fourth p detail) (occurrences m) ↔ ((r : Row) × Memᴰ r (batch_rows m) × (r.first ≡ p) × LeftOut s r detail)
  unfolding batch_rows
  fourth_exactly p detail = (there, back)
    where
      there : Memᴰ (fourth p detail) (occurrences m) → (r : Row) × Memᴰ r (batch_rows m) × (r.first ≡ p) × LeftOut s r detail
      there occurring =
          let (x, at, own) = occurs_taken m (fourth p detail) occurring in
          let so = (marked x at).0 in
          let (r, in_rows, shows) = taken_row m 0 0 no_extent x at (occurs_some p x.first detail x.octets so own) in
          let (first, left_out) = occurs_left_out s x r shows (taken_content s m left 0 formed (encoded_stands s t encoded) x at) so p detail own in
          (r, in_rows, first, left_out)

      back : (r : Row) × Memᴰ r (batch_rows m) × (r.first ≡ p) × LeftOut s r detail → Memᴰ (fourth p detail) (occurrences m)
      back (r, in_rows, first, left_out) = by (row_taken m 0 0 no_extent r in_rows)
        where
          by : (x : TakenElement) × Memᴰ x (takes m) × (ShownBy x r ⊎ (r.kind ≡ x.form.item)) → Memᴰ (fourth p detail) (occurrences m)
          by (x, at, inl shows) =
              let own = left_out_occurs s x r shows (taken_content s m left 0 formed (encoded_stands s t encoded) x at) (marked x at).0 detail left_out in
              subst (λ (q : ℕ). Memᴰ (fourth q detail) (occurrences m)) first (taken_occurs m x (fourth r.first detail) at own)
          by (x, at, inr item) = never_both (five x.form.item) (ap five (sym item) ∙ left_out_five s r detail left_out) (marked x at).1
