-- Which pieces the elements of a container give: a test of the grammar that computes says that each element of a container that has a row has
-- one itself, with nothing shown inside a leaf, and that an item's value gives the item its row. Assumes nothing.
use Prim.Native.Nat.{ℕ, zero, suc, ◌+◌, ◌/◌, ◌%◌}
use native.Mathlib.Omega.{arith}
use mathlib.Core.Path.{◌≡◌, refl, ◌∙◌}
use mathlib.Core.Bool.{Bool, true, false, not, ◌&&◌, ◌||◌, and-eq-true_iff}
use mathlib.Core.List.{List, [], ◌∷◌}
use mathlib.Core.Option.{some}
use lib.Dec.{T, eqb}
use lib.ListN.{get_elem?}
use borrow.Author.Tests.{eqb-true, not-true}
use Rattle.crmf.specs.meaning.Kinds as kinds
use Rattle.crmf.specs.meaning.Value.{Selector, action, method, control_type, info_type}
use Rattle.crmf.specs.meaning.Notation.{Identifiers, octet, general_name, anything, nothing, among, named, Name, names, Batch, order, Inside, free, holds, Form, Occurs, once, optional, repeated, part, Parts, done, ◌then◌, select, Message, CertReq, Template, Validity, Extensions, Signature, KeyProof, Controls, RegInfo}
use Rattle.crmf.specs.meaning.Grammar.{content}
use Rattle.crmf.specs.meaning.Language.{parts_after, OneOf}
use Rattle.crmf.specs.meaning.Rows.{container}
use Rattle.crmf.specs.steps.rows.Assembly.{identifier_of}
use Rattle.crmf.proofs.theorems.grammar.Names.{at_each, not_there}
use Rattle.crmf.proofs.theorems.lists.Tests.{all}
use Rattle.crmf.proofs.theorems.grammar.Choices.{never_both}
use Rattle.crmf.proofs.theorems.grammar.ChoicesMatch.{holds-true}
use Rattle.crmf.proofs.theorems.grammar.Containers.{all_forms, forms_at, quiet_in, quiet_parts, quiet_to, quiet}

-- an octet is the only identifier
unfoldable pub is_octet : Identifiers → ℕ → Bool
is_octet (octet a) b = eqb a b
is_octet general_name b = false
is_octet anything b = false
is_octet nothing b = false

-- so an element has it
pub only_octet : (i : Identifiers) (a id : ℕ) → is_octet i a ≡ true → T (named i id) → id ≡ a
unfolding is_octet named
only_octet (octet b) a id is fits = eqb-true id b (holds-true (eqb id b) fits) ∙ eqb-true b a is
only_octet general_name a id is fits = never_both false is refl
only_octet anything a id is fits = never_both false is refl
only_octet nothing a id is fits = never_both false is refl

-- the containers whose every element is shown: batch, message, certReq, template, validity, extensions, signature, proof, controls and regInfo
unfoldable pub showing : Name → Bool
showing n =
    among
    (order Batch
    ∷ order Message
    ∷ order CertReq
    ∷ order Template
    ∷ order Validity
    ∷ order Extensions
    ∷ order Signature
    ∷ order KeyProof
    ∷ order Controls
    ∷ order RegInfo
    ∷ [])
    (order n)

unfoldable pub showing_in : Inside → Bool
showing_in free = false
showing_in (holds n) = showing n

-- a form with a container's row of a kind, whose elements are all shown
unfoldable pub bears : ℕ → Form → Bool
bears kind f = is_octet f.identifiers (identifier_of kind) && (eqb (identifier_of kind / 32 % 2) 1 && showing_in f.inside)

unfoldable pub is_info : Selector → Bool
is_info action = false
is_info method = false
is_info control_type = false
is_info info_type = true

-- a value, the way i of its type's selection, gives the item a leaf's row and shows nothing inside; or it is the carried certReq
unfoldable pub value_form : Selector → ℕ → Form → Bool
value_form s i f =
    not (eqb f.item 0) && elim (container f.item) [
      | false ↦ eqb f.kind 0 && quiet_in quiet f.inside
      | true ↦ is_info s && (eqb i 2 && (eqb f.item kinds.reg_info_cert_req && (eqb f.kind kinds.cert_req && bears kinds.cert_req f)))
    ]

unfoldable pub value_parts : Selector → ℕ → Parts → Bool
value_parts s i done = false
value_parts s i (select id u ns) = false
value_parts s i (part optional fs then ps) = false
value_parts s i (part repeated fs then ps) = false
value_parts s i (part once fs then (p then ps)) = false
value_parts s i (part once fs then select id u ns) = false
value_parts s i (part once fs then done) = all_forms (value_form s i) fs

unfoldable pub values_from : Selector → ℕ → List Name → Bool
values_from s i [] = true
values_from s i (n ∷ ns) = value_parts s i (content n) && values_from s (suc i) ns

-- the parts of an item: a type, and a value that it selects
unfoldable pub item_parts : Parts → Bool
item_parts done = false
item_parts (part o fs then ps) = false
item_parts (select id s ns) = eqb id 0x06 && values_from s 0 ns

unfoldable pub item_in : Inside → Bool
item_in free = false
item_in (holds n) = item_parts (content n)

-- An element of such a container: an item, a container itself, or a leaf.
unfoldable pub shows_form : Form → Bool
shows_form f =
    eqb f.item 0 && elim (eqb f.kind 0) [
      | true ↦ is_octet f.identifiers 0x30 && item_in f.inside
      | false ↦ elim (container f.kind) [
        | true ↦ not (eqb f.kind kinds.reg_info_cert_req) && bears f.kind f
        | false ↦ quiet_in quiet f.inside
      ]
    ]

unfoldable pub shows : Parts → Bool
shows done = true
shows (part o fs then ps) = all_forms shows_form fs && shows ps
shows (select id s ns) = false

-- every container whose elements are all shown passes: a test that computes
all_shown : all (λ n. not (showing n) || shows (content n)) names ≡ true
unfolding content shows shows_form all_forms showing showing_in item_in item_parts values_from value_parts value_form bears is_octet is_info identifier_of quiet_in quiet_parts quiet_to quiet container among order
all_shown = refl

-- so the parts of one pass
pub showing_parts : (n : Name) → showing n ≡ true → shows (content n) ≡ true
showing_parts n is = go (showing n) is (at_each (λ m. not (showing m) || shows (content m)) all_shown n)
  where
    go : (b : Bool) → b ≡ true → (not b || shows (content n)) ≡ true → shows (content n) ≡ true
    go true on test = test
    go false on test = never_both false on refl

-- What a form with a container's row of a kind says.
pub record Bears (kind : ℕ) (f : Form) : Type 0 where
  pub octet : is_octet f.identifiers (identifier_of kind) ≡ true
  pub bit : identifier_of kind / 32 % 2 ≡ 1
  pub inside : showing_in f.inside ≡ true

bears_says : (kind : ℕ) (f : Form) → bears kind f ≡ true → Bears kind f
unfolding bears
bears_says kind f test =
    let one = (and-eq-true_iff (is_octet f.identifiers (identifier_of kind)) (eqb (identifier_of kind / 32 % 2) 1 && showing_in f.inside)).0 test in
    let two = (and-eq-true_iff (eqb (identifier_of kind / 32 % 2) 1) (showing_in f.inside)).0 one.1 in
    record { octet = one.0; bit = eqb-true _ _ two.0; inside = two.1 }

-- How a form of such a container is shown.
pub data Shown (f : Form) : Type 0 where
  an_item : eqb f.item 0 ≡ true → eqb f.kind 0 ≡ true → is_octet f.identifiers 0x30 ≡ true → item_in f.inside ≡ true → Shown f
  a_container : eqb f.item 0 ≡ true → eqb f.kind 0 ≡ false → container f.kind ≡ true → eqb f.kind kinds.reg_info_cert_req ≡ false → Bears f.kind f → Shown f
  a_leaf : eqb f.item 0 ≡ true → eqb f.kind 0 ≡ false → container f.kind ≡ false → quiet_in quiet f.inside ≡ true → Shown f

form_shown : (f : Form) → shows_form f ≡ true → Shown f
unfolding shows_form
form_shown f test = by_kind (eqb f.kind 0) refl both.1
  where
    both : (eqb f.item 0 ≡ true) × (elim (eqb f.kind 0) as (λ b. Bool) [
      | true ↦ is_octet f.identifiers 0x30 && item_in f.inside
      | false ↦ elim (container f.kind) [ true ↦ not (eqb f.kind kinds.reg_info_cert_req) && bears f.kind f | false ↦ quiet_in quiet f.inside ]
    ] ≡ true)
    both = (and-eq-true_iff (eqb f.item 0) _).0 test

    by_container : eqb f.kind 0 ≡ false → (b : Bool) → container f.kind ≡ b
        → elim b as (λ b. Bool) [ true ↦ not (eqb f.kind kinds.reg_info_cert_req) && bears f.kind f | false ↦ quiet_in quiet f.inside ] ≡ true → Shown f
    by_container kept true is more =
        let two = (and-eq-true_iff (not (eqb f.kind kinds.reg_info_cert_req)) (bears f.kind f)).0 more in
        a_container both.0 kept is (not-true (eqb f.kind kinds.reg_info_cert_req) two.0) (bears_says f.kind f two.1)
    by_container kept false is more = a_leaf both.0 kept is more

    by_kind : (b : Bool) → eqb f.kind 0 ≡ b → elim b as (λ b. Bool) [
      | true ↦ is_octet f.identifiers 0x30 && item_in f.inside
      | false ↦ elim (container f.kind) [ true ↦ not (eqb f.kind kinds.reg_info_cert_req) && bears f.kind f | false ↦ quiet_in quiet f.inside ]
    ] ≡ true → Shown f
    by_kind true none more =
        let two = (and-eq-true_iff (is_octet f.identifiers 0x30) (item_in f.inside)).0 more in
        an_item both.0 none two.0 two.1
    by_kind false kept more = by_container kept (container f.kind) refl more

-- What parts that are shown say: of each form, of the parts after one, and of the parts after the first.
pub record ShownPart (o : Occurs) (fs : List Form) (ps : Parts) : Type 0 where
  pub form : {f : Form} → OneOf f fs → Shown f
  pub after_form : shows (parts_after o fs ps) ≡ true
  pub past : shows ps ≡ true

pub shown_part : (o : Occurs) (fs : List Form) (ps : Parts) → shows (part o fs then ps) ≡ true → ShownPart o fs ps
unfolding shows
shown_part o fs ps test =
    let both = (and-eq-true_iff (all_forms shows_form fs) (shows ps)).0 test in
    record { form = λ {f} m. form_shown f (forms_at shows_form m both.0); after_form = again o test both.1; past = both.1 }
  where
    again : (p : Occurs) → shows (part p fs then ps) ≡ true → shows ps ≡ true → shows (parts_after p fs ps) ≡ true
    again once whole past = past
    again optional whole past = past
    again repeated whole past = whole

-- How a value gives its item a row.
pub data Valued (s : Selector) (i : ℕ) (f : Form) : Type 0 where
  a_value : eqb f.item 0 ≡ false → container f.item ≡ false → eqb f.kind 0 ≡ true → quiet_in quiet f.inside ≡ true → Valued s i f
  carried_request : s ≡ info_type → i ≡ 2 → f.item ≡ kinds.reg_info_cert_req → f.kind ≡ kinds.cert_req → Bears kinds.cert_req f → Valued s i f

info_type_lem : (s : Selector) → is_info s ≡ true → s ≡ info_type
unfolding is_info
info_type_lem action is = never_both false is refl
info_type_lem method is = never_both false is refl
info_type_lem control_type is = never_both false is refl
info_type_lem info_type is = refl

pub form_valued : (s : Selector) (i : ℕ) (f : Form) → value_form s i f ≡ true → Valued s i f
unfolding value_form
form_valued s i f test = by_container (container f.item) refl both.1
  where
    both : (not (eqb f.item 0) ≡ true) × (elim (container f.item) as (λ b. Bool) [
      | false ↦ eqb f.kind 0 && quiet_in quiet f.inside
      | true ↦ is_info s && (eqb i 2 && (eqb f.item kinds.reg_info_cert_req && (eqb f.kind kinds.cert_req && bears kinds.cert_req f)))
    ] ≡ true)
    both = (and-eq-true_iff (not (eqb f.item 0)) _).0 test

    by_container : (b : Bool) → container f.item ≡ b → elim b as (λ b. Bool) [
      | false ↦ eqb f.kind 0 && quiet_in quiet f.inside
      | true ↦ is_info s && (eqb i 2 && (eqb f.item kinds.reg_info_cert_req && (eqb f.kind kinds.cert_req && bears kinds.cert_req f)))
    ] ≡ true → Valued s i f
    by_container false is more =
        let two = (and-eq-true_iff (eqb f.kind 0) (quiet_in quiet f.inside)).0 more in
        a_value (not-true (eqb f.item 0) both.0) is two.0 two.1
    by_container true is more =
        let one = (and-eq-true_iff (is_info s) (eqb i 2 && (eqb f.item kinds.reg_info_cert_req && (eqb f.kind kinds.cert_req && bears kinds.cert_req f)))).0 more in
        let two = (and-eq-true_iff (eqb i 2) (eqb f.item kinds.reg_info_cert_req && (eqb f.kind kinds.cert_req && bears kinds.cert_req f))).0 one.1 in
        let three = (and-eq-true_iff (eqb f.item kinds.reg_info_cert_req) (eqb f.kind kinds.cert_req && bears kinds.cert_req f)).0 two.1 in
        let four = (and-eq-true_iff (eqb f.kind kinds.cert_req) (bears kinds.cert_req f)).0 three.1 in
        carried_request (info_type_lem s one.0) (eqb-true _ _ two.0) (eqb-true _ _ three.0) (eqb-true _ _ four.0) (bears_says 3 f four.1)

-- the values that a type selects, each by its way
values_at : (s : Selector) (j i : ℕ) (ns : List Name) (n : Name) → values_from s j ns ≡ true → get_elem? ns i ≡ some n → value_parts s (j + i) (content n) ≡ true
unfolding values_from
values_at s j i [] n test there = not_there there
values_at s j zero (m ∷ ns) n test there =
    let same : m ≡ n = cc in
    let here = ((and-eq-true_iff (value_parts s j (content m)) (values_from s (suc j) ns)).0 test).0 in
    let sum : j + 0 ≡ j = omega arith in
    rw (sum, ← same) here
values_at s j (suc i) (m ∷ ns) n test there =
    let sum : j + suc i ≡ suc j + i = omega arith in
    rw sum (values_at s (suc j) i ns n ((and-eq-true_iff (value_parts s j (content m)) (values_from s (suc j) ns)).0 test).1 there)

-- an item's type is an 06, and the value that it selects gives the item its row
pub item_says : (id i : ℕ) (s : Selector) (ns : List Name) (n : Name) → item_parts (select id s ns) ≡ true → get_elem? ns i ≡ some n
    → (id ≡ 0x06) × (value_parts s i (content n) ≡ true)
unfolding item_parts
item_says id i s ns n test there =
    let both = (and-eq-true_iff (eqb id 0x06) (values_from s 0 ns)).0 test in
    let sum : 0 + i ≡ i = omega arith in
    (eqb-true id 0x06 both.0, rw sum at (values_at s 0 i ns n both.1 there))

-- a batch's messages are all shown
pub batch_shown : showing_in (holds Batch) ≡ true
unfolding showing_in showing among order
batch_shown = refl
