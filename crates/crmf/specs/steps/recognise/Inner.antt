-- What the inner functions of the recogniser require and answer. Assumes nothing.
use Rattle.std.specs.Prelude.{ℕ, ◌+◌, ◌-◌, ◌≤◌, ◌<◌, ◌≡◌, true, false, List, eqb, length, drop, get_or, Err, Ok, Option, Some, None}
use Rattle.der.specs.declared.element.length.Span.{Span}
use Rattle.der.specs.meaning.Bounds.{longest}
use Rattle.der.specs.steps.Span.{span_of}
use Rattle.der.specs.steps.Order.{closes}
use Rattle.der.specs.steps.Recognise.{is_element}
use Rattle.crmf.specs.declared.recognise.step.Visit.{Visit}
use Rattle.crmf.specs.declared.recognise.step.Visit.TheVariants.{Skip, Descend}
use Rattle.crmf.specs.declared.rows.Spot.{Spot}
use Rattle.crmf.specs.steps.explain.Walk.{line, judged}
use Rattle.crmf.specs.steps.recognise.Count.{may_stand, counts_at}

-- The count over an element's content, after n rows. The element has a whole length, an identifier and its content at a place, and is in the
-- form of line k.
unfoldable pub content_count : (e k whole left n p id : ℕ) → List ℕ → Option ℕ
content_count e k whole left n p id c =
    elim (may_stand e (line k) c whole) [
      | false ↦ None
      | true ↦ elim (eqb (line k).inside 0) [
        | true ↦ elim (is_element id left c) [ true ↦ Some n | false ↦ None ]
        | false ↦ elim (closes id c) [ true ↦ counts_at e left (line k).inside n p c | false ↦ None ]
      ]
    ]

-- the same, if the value keeps its rule
unfoldable pub ruled_count : (e k whole left n p id : ℕ) → List ℕ → Option ℕ
ruled_count e k whole left n p id c =
    elim (judged (line k).judge (line k).next c) [ Err d ↦ None | Ok next ↦ content_count e k whole left n p id c ]

-- What matters of an element's whole length for a certReqId: there are two octets before a content of at most 8.
pub record Sized (whole : ℕ) (c : List ℕ) : Type 0 where
  pub small : length c ≤ 8 → whole ≤ 10
  pub large : 8 < length c → 10 < whole

-- Why the recogniser may go on as it does at an element in the form of line k. None: the element isn't recognised, whatever was counted
-- before it. Skip: its content is recognised and has no rows. Descend: its content is what the lines inside say.
abbrev pub VisitJustified : (e k whole left id : ℕ) → List ℕ → Option Visit → Type 0
VisitJustified e k whole left id c None = (n p : ℕ) → ruled_count e k whole left n p id c ≡ None
VisitJustified e k whole left id c (Some (Skip next)) =
    (judged (line k).judge (line k).next c ≡ Ok next) × ((n p : ℕ) → content_count e k whole left n p id c ≡ Some n)
VisitJustified e k whole left id c (Some (Descend next)) =
    (judged (line k).judge (line k).next c ≡ Ok next)
    × ((n p : ℕ) → content_count e k whole left n p id c ≡ counts_at e left (line k).inside n p c)

-- The octets are recognised from line k on in every edition if at least `levels` levels of depth are left, and have no rows.
abbrev pub RowlessFrom : ℕ → ℕ → List ℕ → Type 0
RowlessFrom k levels c = (e left n p : ℕ) → levels ≤ left → counts_at e left k n p c ≡ Some n

-- The octets start with an element that has an identifier and a span.
pub record Leading (bytes : List ℕ) (id : ℕ) (x : Span) : Type 0 where
  pub measured : x ≡ span_of bytes
  pub identified : get_or bytes 0 0 ≡ id
  pub fits : (2 ≤ x.octets) × (x.octets + x.length ≤ length bytes)

-- The octets are exactly one element, which has an identifier and its content from a place on.
pub record Sole (bytes : List ℕ) (id from : ℕ) : Type 0 where
  pub span : Span
  pub leads : Leading bytes id span
  pub starts : from ≡ span.octets
  pub ends : span.octets + span.length ≡ length bytes

-- What a count over octets requires: the rows before them and one for each octet stay within a bound, and the table of lines is right.
pub record Countable (bytes : List ℕ) (before : ℕ) : Type 0 where
  pub room : before + length bytes ≤ longest

-- What is answered for the elements that octets are, from line k on: the count, which has at most one row for each octet.
pub record ListCounted (e left k before : ℕ) (bytes : List ℕ) (r : Option ℕ) : Type 0 where
  pub same : (p : ℕ) → r ≡ counts_at e left k before p bytes
  pub few : (n : ℕ) → r ≡ Some n → n ≤ before + length bytes

-- the count from a spot on
abbrev pub count_from : (e left p : ℕ) → List ℕ → Spot → Option ℕ
count_from e left p bytes x = counts_at e left x.state x.row (p + x.at) (drop x.at bytes)

-- the count after an element, if it was recognised
abbrev pub count_after : (e left p : ℕ) → List ℕ → Option Spot → Option ℕ
count_after e left p bytes (Some x) = count_from e left p bytes x
count_after e left p bytes None = None

-- The spot after the element at another: the count goes on further on, with the same answer, and within the same bound.
pub record ElementCounted (e left : ℕ) (from : Spot) (bytes : List ℕ) (r : Option Spot) : Type 0 where
  pub same : (p : ℕ) → count_from e left p bytes from ≡ count_after e left p bytes r
  pub forward : (x : Spot) → r ≡ Some x
      → (from.at < x.at) × (x.at ≤ length bytes) × (x.row + (length bytes - x.at) ≤ from.row + (length bytes - from.at))
