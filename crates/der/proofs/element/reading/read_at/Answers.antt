-- `der::element::reading::read_at` meets its contract: with an identifier that is allowed, the span of the part is its header; without a span the
-- header is broken. Assumes nothing.
use mathlib.Core.Path.{◌≡◌, sym, ap, ◌∙◌}
use mathlib.Core.Bool.{true, false}
use mathlib.Core.List.{List}
use native.Mathlib.Omega.{arith}
use Prim.Native.Nat.{ℕ, ◌+◌, ◌≤◌}
use Rattle.std.specs.Prelude.{Option, None, Some}
use lib.ListN.{length, get_or}
use lib.Seq.{slice}
use Rattle.der.specs.declared.element.length.Span.{Span}
use Rattle.der.specs.meaning.Bounds.{longest}
use Rattle.der.specs.meaning.Identifier.{allowed}
use Rattle.der.specs.steps.Span.{span_of, found_span}
use Rattle.der.specs.steps.Reading.{nothing_at, read, reading_at}
use Rattle.der.proofs.theorems.lists.Parts.{slice_size}
use Rattle.der.proofs.theorems.reading.Readings.{read_at, read_at_long, read_stands, read_broken}
use Rattle.der.proofs.theorems.element.Spans.{head_refused, span_stands, span_broken, found_none, found_some, found_one, found_fits}
use Rattle.der.proofs.element.reading.read_at.Goals as goal
use Rattle.der.proofs.element.reading.read_at.Goals.{in-Some+else-is_allowed, in_default, After-measure}

-- A part of the input, which is measured, and is the octets bs from the place p on.
module _ (p : ℕ) (bs part : List ℕ) {r : Option Span} (same : part ≡ bs) (found : r ≡ found_span (span_of part)) where
  -- it has the answer of those octets
  theirs : r ≡ found_span (span_of bs)
  theirs = found ∙ ap (λ (l : List ℕ). found_span (span_of l)) same

  -- without a span they are read as no element
  lost : length bs ≤ longest → r ≡ None → nothing_at (p + length part) ≡ read p bs
  lost short none =
      ap (λ (l : List ℕ). nothing_at (p + length l)) same ∙ sym (read_broken p bs (span_broken bs short (found_none bs theirs none)))

  module _ {x : Span} (is : r ≡ Some x) where
    -- after an identifier that is not allowed no element is read
    wrong : allowed (get_or part 0 0) ≡ false → nothing_at (p + length part) ≡ read p bs
    wrong e =
        ap (λ (l : List ℕ). nothing_at (p + length l)) same
        ∙ sym (read_broken p bs (head_refused bs (omega (arith, found_fits bs theirs is)) (rw same at e)))

    -- after one that is allowed the span gives the element
    right : allowed (get_or part 0 0) ≡ true → record { identifier = get_or part 0 0; content = p + x.octets; end = p + x.octets + x.length } ≡ read p bs
    right e =
        rw (found_some bs theirs is, same)
        (sym (read_stands p bs (get_or bs 0 0) (span_of bs).octets (span_of bs).length (span_stands bs (found_one bs theirs is) (rw same at e))))

-- src/element/reading.rt:25:9

-- The part is measured.
module _ (c : After-measure) where
  -- the octets that the element is read from
  abbrev octets : List ℕ
  octets = slice c.args.at c.args.end c.args.bytes.now

  -- by places the element is read from those octets
  by_places : reading_at c.args.bytes.now c.args.at c.args.end ≡ read c.args.at octets
  by_places = read_at c.args.bytes.now c.args.at c.args.end c.if-bytes-gt-LONGEST.false

  -- a span and its content end within the input, which is not too long
  within : {x : Span} → c.measure.result ≡ Some x → (2 ≤ x.octets) × (x.octets + x.length ≤ length octets) × (c.args.at + (x.octets + x.length) ≤ longest)
  within is =
      omega (
        arith,
        found_fits octets (theirs c.args.at octets c.between-inside.result.now c.between-inside.ensures c.measure.ensures) is,
        slice_size c.args.at c.args.end c.args.bytes.now,
        c.if-bytes-gt-LONGEST.false,
      )

pub returns-then-bytes-gt-LONGEST : goal.returns-then-bytes-gt-LONGEST
returns-then-bytes-gt-LONGEST c =
    let a = c.args in
    c.nothing_at.ensures ∙ sym (read_at_long a.bytes.now a.at a.end c.if-bytes-gt-LONGEST.true)

pub bounds-inside-0 : goal.bounds-inside-0
bounds-inside-0 c = omega (arith, within (goal.at.bounds-inside-0 c).After-measure c.in-Some.is, ap length c.between-inside.ensures)

pub overflow_add-result : goal.overflow_add-result
overflow_add-result c = omega (arith, within (goal.at.overflow_add-result c).After-measure c.in-Some.is)

pub overflow_add-result-then-is_allowed : goal.overflow_add-result-then-is_allowed
overflow_add-result-then-is_allowed c = omega (arith, within (goal.at.overflow_add-result-then-is_allowed c).After-measure c.in-Some.is)

pub overflow_add-result-then-is_allowed-2 : goal.overflow_add-result-then-is_allowed-2
overflow_add-result-then-is_allowed-2 c = omega (arith, within (goal.at.overflow_add-result-then-is_allowed-2 c).After-measure c.in-Some.is)

pub returns-then-is_allowed : goal.returns-then-is_allowed
returns-then-is_allowed c =
    let d = (goal.at.returns-then-is_allowed c).After-measure in
    right c.args.at (octets d) c.between-inside.result.now c.between-inside.ensures c.measure.ensures c.in-Some.is (sym c.is_allowed.ensures ∙ c.if-is_allowed.true)
    ∙ sym (by_places d)

pub overflow_add-at : goal.overflow_add-at
overflow_add-at c =
    omega (
      arith,
      ap length c.between-inside.ensures,
      slice_size c.args.at c.args.end c.args.bytes.now,
      c.ranges.at,
      c.if-bytes-gt-LONGEST.false,
    )

pub returns : goal.returns
returns c =
    let d = (goal.at.returns c).After-measure in
    let a = c.args in
    c.nothing_at-2.ensures
    ∙ elim c.match-measure.branch [
      | in-Some+else-is_allowed w ↦ wrong a.at (octets d) c.between-inside.result.now c.between-inside.ensures c.measure.ensures w.in-Some.is
          (sym w.is_allowed.ensures ∙ w.if-is_allowed.false)
      | in_default w ↦ lost a.at (octets d) c.between-inside.result.now c.between-inside.ensures c.measure.ensures
          (omega (arith, slice_size a.at a.end a.bytes.now, c.if-bytes-gt-LONGEST.false)) w.in_default.is
    ]
    ∙ sym (by_places d)
