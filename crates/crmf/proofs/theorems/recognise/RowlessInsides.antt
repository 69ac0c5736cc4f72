-- Octets that are recognised without a row: the empty list, and a list whose first element has such a content. Then the small containers of
-- the grammar, by what their bytes start with (`Leading`) or are (`Sole`). Assumes nothing.
use Prim.Native.Nat.{ℕ, zero, suc, ◌+◌, ◌-◌, ◌≤◌}
use mathlib.Core.Path.{◌≡◌, refl, sym, ap, ◌∙◌}
use mathlib.Core.Bool.{true, false}
use mathlib.Core.List.{List, []}
use native.Mathlib.Nat.{add-zero}
use native.Mathlib.Omega.{arith}
use lib.Dec.{eqb}
use lib.ListN.{length, take, drop, get_or}
use lib.Seq.{slice, drop-length}
use Rattle.der.specs.declared.element.length.Span.{Span}
use Rattle.der.specs.meaning.Bounds.{longest}
use Rattle.der.specs.meaning.Identifier.{allowed, constructed}
use Rattle.der.specs.meaning.Content.{bit_string, object_identifier}
use Rattle.der.specs.steps.ContentTest.{holds}
use Rattle.der.specs.steps.Span.{span_of}
use Rattle.der.specs.steps.Order.{closes}
use Rattle.der.specs.steps.Recognise.{is_element}
use Rattle.der.proofs.Laws.{is_element_value, closes_free, closes_one, holds_object_identifier, holds_bit_string, constructed_octet, known_allowed, take_slice, take_from}
use Rattle.std.specs.Prelude.{Some, Ok}
use Rattle.crmf.specs.meaning.Value.{keeps}
use Rattle.crmf.specs.meaning.Notation.{named, AlgId, Spki, OneName, RdnSequence, Rdn, Attribute}
use Rattle.crmf.specs.steps.grammar.Lines.{start}
use Rattle.crmf.specs.steps.explain.Walk.{line, find_line_in, find_line, closed_in, closed, judged, rows_by}
use Rattle.crmf.specs.steps.recognise.Count.{may_stand, counts_at}
use Rattle.crmf.specs.steps.recognise.Inner.{content_count, RowlessFrom, Leading, Sole}
use Rattle.crmf.proofs.theorems.lines.WordFields.{computed}
use Rattle.crmf.proofs.theorems.recognise.CountWays.{at_on, at_end}

-- A line that an identifier leads to from a line on: of every edition, without a row, with the lines inside it and the line after it.
record RowlessLine (k id j within next : ℕ) : Type 0 where
  found : find_line k id ≡ Some j
  stood : (e whole : ℕ) (c : List ℕ) → may_stand e (line j) c whole ≡ true
  rowless : rows_by (line j) ≡ 0
  inside : (line j).inside ≡ within
  goes : (c : List ℕ) → judged (line j).judge (line j).next c ≡ Ok next

-- the empty list of octets is recognised if the container may end there
rowless_end : (k levels : ℕ) → closed k ≡ true → RowlessFrom k levels []
rowless_end k levels ends = λ e left n p deep. at_end e left k n p ends

-- With a first element: where its content starts and ends, and its content.
module _ (bs : List ℕ) (short : length bs ≤ longest) (some_octets : (span_of bs).octets ≡ 0 → ⊥) where
  abbrev start_of : ℕ
  start_of = (span_of bs).octets

  abbrev end_of : ℕ
  end_of = start_of + (span_of bs).length

  abbrev content : List ℕ
  content = slice start_of end_of bs

  module _ (k j within next levels : ℕ) (found : RowlessLine k (get_or bs 0 0) j within next) where
    -- its content is recognised, and so is what is after it
    rowless_element : ((e left n p : ℕ) → levels ≤ left → content_count e j end_of left n p (get_or bs 0 0) content ≡ Some n)
        → RowlessFrom next (suc levels) (drop end_of bs) → RowlessFrom k (suc levels) bs
    rowless_element itself after e zero n p deep = absurd (omega arith)
    rowless_element itself after e (suc left) n p deep =
        at_on e left k n p bs short some_octets j found.found next n
        (rw (found.rowless, add-zero) (itself e left n (p + start_of) (omega arith))) (found.goes content)
        ∙ after e (suc left) n (p + end_of) deep

    -- a content without lines
    rowless_value : within ≡ 0 → ((left : ℕ) → is_element (get_or bs 0 0) left content ≡ true) → RowlessFrom next (suc levels) (drop end_of bs)
        → RowlessFrom k (suc levels) bs
    unfolding content_count
    rowless_value free whole = rowless_element (λ e left n p deep. rw (content_count, found.stood e end_of content, found.inside, free, whole left))

    -- a content with lines, if the element keeps the rule at its end
    rowless_inside : eqb within 0 ≡ false → closes (get_or bs 0 0) content ≡ true → RowlessFrom within levels content
        → RowlessFrom next (suc levels) (drop end_of bs) → RowlessFrom k (suc levels) bs
    unfolding content_count
    rowless_inside lined kept inner =
        rowless_element (λ e left n p deep.
        rw (content_count, found.stood e end_of content, found.inside, lined, kept)
        (ap (λ (i : ℕ). counts_at e left i n p content) found.inside ∙ inner e left n p deep))

-- the line to go on with after the last part of a container
abbrev ending : ℕ
ending = 0

-- The lines of the small containers, by the identifiers of their elements. An AlgorithmIdentifier's OBJECT IDENTIFIER and value.
alg_id_type : RowlessLine (start AlgId) 0x06 (start AlgId) 0 (suc (start AlgId))
unfolding computed line find_line find_line_in named judged keeps
alg_id_type = record { found = refl; stood = λ e whole c. refl; rowless = refl; inside = refl; goes = λ c. refl }

alg_id_value : (id : ℕ) → RowlessLine (suc (start AlgId)) id (suc (start AlgId)) 0 ending
unfolding computed line find_line find_line_in named judged keeps
alg_id_value id = record { found = refl; stood = λ e whole c. refl; rowless = refl; inside = refl; goes = λ c. refl }

-- an AttributeTypeAndValue's OBJECT IDENTIFIER and value
attribute_type : RowlessLine (start Attribute) 0x06 (start Attribute) 0 (suc (start Attribute))
unfolding computed line find_line find_line_in named judged keeps
attribute_type = record { found = refl; stood = λ e whole c. refl; rowless = refl; inside = refl; goes = λ c. refl }

attribute_value : (id : ℕ) → RowlessLine (suc (start Attribute)) id (suc (start Attribute)) 0 ending
unfolding computed line find_line find_line_in named judged keeps
attribute_value id = record { found = refl; stood = λ e whole c. refl; rowless = refl; inside = refl; goes = λ c. refl }

-- an AttributeTypeAndValue in a RelativeDistinguishedName, that in an RDNSequence, and that in a Name
rdn_attribute : RowlessLine (start Rdn) 0x30 (start Rdn) (start Attribute) (suc (start Rdn))
unfolding computed line find_line find_line_in named judged keeps
rdn_attribute = record { found = refl; stood = λ e whole c. refl; rowless = refl; inside = refl; goes = λ c. refl }

sequence_rdn : RowlessLine (start RdnSequence) 0x31 (start RdnSequence) (start Rdn) (start RdnSequence)
unfolding computed line find_line find_line_in named judged keeps
sequence_rdn = record { found = refl; stood = λ e whole c. refl; rowless = refl; inside = refl; goes = λ c. refl }

name_sequence : RowlessLine (start OneName) 0x30 (start OneName) (start RdnSequence) ending
unfolding computed line find_line find_line_in named judged keeps
name_sequence = record { found = refl; stood = λ e whole c. refl; rowless = refl; inside = refl; goes = λ c. refl }

-- a SubjectPublicKeyInfo's AlgorithmIdentifier and BIT STRING
key_alg_id : RowlessLine (start Spki) 0x30 (start Spki) (start AlgId) (suc (start Spki))
unfolding computed line find_line find_line_in named judged keeps
key_alg_id = record { found = refl; stood = λ e whole c. refl; rowless = refl; inside = refl; goes = λ c. refl }

key_bits : RowlessLine (suc (start Spki)) 0x03 (suc (start Spki)) 0 ending
unfolding computed line find_line find_line_in named judged keeps
key_bits = record { found = refl; stood = λ e whole c. refl; rowless = refl; inside = refl; goes = λ c. refl }

-- An OBJECT IDENTIFIER and a BIT STRING have no fault, whatever levels are left.
whole_type : (left : ℕ) (c : List ℕ) → object_identifier c ≡ true → is_element 0x06 left c ≡ true
whole_type left c kept = is_element_value 0x06 left c (known_allowed 0x06 refl) (constructed_octet 0x06) ∙ holds_object_identifier c ∙ kept

whole_bits : (left : ℕ) (c : List ℕ) → bit_string c ≡ true → is_element 0x03 left c ≡ true
whole_bits left c kept = is_element_value 0x03 left c (known_allowed 0x03 refl) (constructed_octet 0x03) ∙ holds_bit_string c ∙ kept

-- The element that the octets start with, its content as a part of them, and the octets after it.
module _ (bs : List ℕ) (short : length bs ≤ longest) {i : ℕ} {s : Span} (first : Leading bs i s) where
  abbrev end : ℕ
  end = s.octets + s.length

  abbrev within : List ℕ
  within = take (end - s.octets) (drop s.octets bs)

  abbrev after : List ℕ
  after = take (length bs - end) (drop end bs)

  -- it has a span
  some : (span_of bs).octets ≡ 0 → ⊥
  some none = let two : 2 ≤ (span_of bs).octets = rw first.measured at first.fits.0 in omega (arith, two, none)

  module _ {k j lines next levels : ℕ} (found : RowlessLine k i j lines next) where
    -- with a content without lines
    leading_value : lines ≡ 0 → ((left : ℕ) → is_element i left within ≡ true) → RowlessFrom next (suc levels) (drop end bs) → RowlessFrom k (suc levels) bs
    leading_value free =
        rw (sym first.identified, first.measured, take_slice (span_of bs).octets ((span_of bs).octets + (span_of bs).length) bs (omega arith))
        (rowless_value bs short some k j lines next levels (rw first.identified found) free)

    -- with lines inside it
    leading_nested : eqb lines 0 ≡ false → closes i within ≡ true → RowlessFrom lines levels within → RowlessFrom next (suc levels) (drop end bs)
        → RowlessFrom k (suc levels) bs
    leading_nested lined =
        rw (sym first.identified, first.measured, take_slice (span_of bs).octets ((span_of bs).octets + (span_of bs).length) bs (omega arith))
        (rowless_inside bs short some k j lines next levels (rw first.identified found) lined)

-- the content of the element that the octets are starts within them
pub sole_starts : {bs : List ℕ} {i from : ℕ} → Sole bs i from → from ≤ length bs
sole_starts one = omega (arith, one.starts, one.ends)

-- The element that the octets are, and its content.
module _ (bs : List ℕ) (short : length bs ≤ longest) {i from : ℕ} (one : Sole bs i from) where
  abbrev inside : List ℕ
  inside = take (length bs - from) (drop from bs)

  same_inside : within bs short one.leads ≡ inside
  same_inside = rw (one.ends, one.starts)

  -- nothing is after it
  last : (k levels : ℕ) → closed k ≡ true → RowlessFrom k levels (drop (one.span.octets + one.span.length) bs)
  last k levels ends = rw (one.ends, drop-length bs) (rowless_end k levels ends)

  module _ {k j lines next levels : ℕ} (found : RowlessLine k i j lines next) (ends : closed next ≡ true) where
    -- with a content without lines
    sole_value : lines ≡ 0 → ((left : ℕ) → is_element i left inside ≡ true) → RowlessFrom k (suc levels) bs
    sole_value free whole = leading_value bs short one.leads found free (rw same_inside whole) (last next (suc levels) ends)

    -- with lines inside it
    sole_nested : eqb lines 0 ≡ false → eqb i 0x31 ≡ false → RowlessFrom lines levels inside → RowlessFrom k (suc levels) bs
    sole_nested lined other inner = leading_nested bs short one.leads found lined (closes_free i _ other) (rw same_inside inner) (last next (suc levels) ends)

  -- a primitive value
  pub rowless_primitive : constructed i ≡ false → allowed i ≡ true → holds i inside ≡ true
      → RowlessFrom (suc (start AlgId)) 1 bs × RowlessFrom (suc (start Attribute)) 1 bs
  unfolding computed closed closed_in
  rowless_primitive made may kept =
      let whole : (left : ℕ) → is_element i left inside ≡ true = λ left. is_element_value i left inside may made ∙ kept in
      (sole_value (alg_id_value i) refl refl whole, sole_value (attribute_value i) refl refl whole)

-- the BIT STRING of a SubjectPublicKeyInfo
pub rowless_key_bits : (bs : List ℕ) (short : length bs ≤ longest) {from : ℕ} (one : Sole bs 0x03 from) → bit_string (inside bs short one) ≡ true
    → RowlessFrom (suc (start Spki)) 1 bs
unfolding computed closed closed_in
rowless_key_bits bs short one kept = sole_value bs short one key_bits refl refl (λ left. whole_bits left (inside bs short one) kept)

-- one element alone keeps the rule at an element's end
pub sole_closes : (id : ℕ) {bs : List ℕ} {i from : ℕ} → Sole bs i from → closes id bs ≡ true
sole_closes id {bs} one =
    let same = one.leads.measured in
    closes_one id bs (λ none. omega (arith, one.leads.fits, ap (λ (s : Span). s.octets) same))
    (ap (λ (s : Span). s.octets + s.length) (sym same) ∙ one.ends)

-- a RelativeDistinguishedName with one AttributeTypeAndValue
pub rowless_rdn : (bs : List ℕ) (short : length bs ≤ longest) {from : ℕ} (one : Sole bs 0x30 from)
    → RowlessFrom (start Attribute) 1 (inside bs short one) → RowlessFrom (start Rdn) 2 bs
unfolding computed closed closed_in
rowless_rdn bs short one inner = sole_nested bs short one rdn_attribute refl refl refl inner

-- a Name
pub rowless_name : (bs : List ℕ) (short : length bs ≤ longest) {from : ℕ} (one : Sole bs 0x30 from)
    → RowlessFrom (start RdnSequence) 3 (inside bs short one) → RowlessFrom (start OneName) 4 bs
unfolding computed closed closed_in
rowless_name bs short one inner = sole_nested bs short one name_sequence refl refl refl inner

-- an OBJECT IDENTIFIER alone, and one with a value
module _ (bs : List ℕ) (short : length bs ≤ longest) {s : Span} (first : Leading bs 0x06 s) (kept : object_identifier (within bs short first) ≡ true) where
  typed : (left : ℕ) → is_element 0x06 left (within bs short first) ≡ true
  typed left = whole_type left (within bs short first) kept

  pub rowless_type : s.octets + s.length ≡ length bs → RowlessFrom (start AlgId) 1 bs
  unfolding computed closed closed_in
  rowless_type all =
      leading_value bs short first alg_id_type refl typed (rw (all, drop-length bs) (rowless_end (suc (start AlgId)) 1 refl))

  pub rowless_type_and_value : RowlessFrom (suc (start AlgId)) 1 (after bs short first) × RowlessFrom (suc (start Attribute)) 1 (after bs short first)
      → RowlessFrom (start AlgId) 1 bs × RowlessFrom (start Attribute) 1 bs
  rowless_type_and_value =
      rw (take_from (s.octets + s.length) bs)
      (λ values. (leading_value bs short first alg_id_type refl typed values.0, leading_value bs short first attribute_type refl typed values.1))

-- a SubjectPublicKeyInfo
pub rowless_key : (bs : List ℕ) (short : length bs ≤ longest) {s : Span} (first : Leading bs 0x30 s) → RowlessFrom (start AlgId) 1 (within bs short first)
    → RowlessFrom (suc (start Spki)) 1 (after bs short first) → RowlessFrom (start Spki) 2 bs
unfolding computed
rowless_key bs short {s} first inner =
    rw (take_from (s.octets + s.length) bs) (λ bits. leading_nested bs short first key_alg_id refl (closes_free 0x30 _ refl) inner (λ e left n p deep. bits e left n p (omega arith)))

-- a RelativeDistinguishedName before others
pub rowless_rdn_from : (bs : List ℕ) (short : length bs ≤ longest) {s : Span} (first : Leading bs 0x31 s)
    → (let c = take (s.octets + s.length - s.octets) (drop s.octets bs) in RowlessFrom (start Rdn) 2 c × (closes 0x31 c ≡ true))
    → RowlessFrom (start RdnSequence) 3 (take (length bs - (s.octets + s.length)) (drop (s.octets + s.length) bs)) → RowlessFrom (start RdnSequence) 3 bs
unfolding computed
rowless_rdn_from bs short {s} first inner later =
    leading_nested bs short first sequence_rdn refl inner.1 inner.0 (rw (take_from (s.octets + s.length) bs) at later)

-- an RDNSequence may be empty
pub rowless_none : RowlessFrom (start RdnSequence) 3 []
unfolding computed closed closed_in
rowless_none = rowless_end (start RdnSequence) 3 refl
