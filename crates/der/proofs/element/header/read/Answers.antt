-- `der::element::header::read` meets its contract: with a span and an identifier that is allowed, the span is the header; otherwise the header is
-- broken, for the cause that is answered. Assumes nothing.
use mathlib.Core.Bool.{true, false}
use mathlib.Core.Path.{◌≡◌, sym, ap, ◌∙◌}
use mathlib.Core.List.{List}
use native.Mathlib.Omega.{arith}
use Prim.Native.Nat.{ℕ, ◌≤◌}
use Rattle.std.specs.Prelude.{Option, None, Some}
use lib.ListN.{length, get_or}
use Rattle.der.specs.declared.element.length.Span.{Span}
use Rattle.der.specs.meaning.Bounds.{longest}
use Rattle.der.specs.meaning.Identifier.{allowed}
use Rattle.der.specs.steps.Head.{Stands, Broken}
use Rattle.der.specs.steps.Header.{head_of, cause_of}
use Rattle.der.specs.steps.Span.{span_of, found_span}
use Rattle.der.proofs.theorems.element.Spans.{span_stands, span_broken, head_refused, refused_cause, found_none, found_some, found_one, found_fits}
use Rattle.der.proofs.element.header.read.Goals as goal
use Rattle.der.proofs.element.header.read.Goals.{in-Some+else-is_allowed, in_default}

-- The octets bs are measured.
module _ (bs : List ℕ) {r : Option Span} (found : r ≡ found_span (span_of bs)) where
  -- without a span
  lost : length bs ≤ longest → r ≡ None → head_of bs ≡ Broken (cause_of bs)
  lost short none = span_broken bs short (found_none bs found none)

  module _ {x : Span} (is : r ≡ Some x) where
    -- with an identifier that is not allowed
    wrong : allowed (get_or bs 0 0) ≡ false → head_of bs ≡ Broken (cause_of bs)
    wrong e = head_refused bs (omega (arith, found_fits bs found is)) e ∙ ap Broken (refused_cause bs (omega (arith, found_fits bs found is)) e)

    -- with one that is allowed
    right : allowed (get_or bs 0 0) ≡ true → Stands (get_or bs 0 0) x.octets x.length ≡ head_of bs
    right e = rw (found_some bs found is) (sym (span_stands bs (found_one bs found is) e))

pub bounds-bytes-0 : goal.bounds-bytes-0
bounds-bytes-0 c = omega (arith, found_fits c.args.bytes.now c.measure.ensures c.in-Some.is)

pub returns-then-is_allowed : goal.returns-then-is_allowed
returns-then-is_allowed c = right c.args.bytes.now c.measure.ensures c.in-Some.is (sym c.is_allowed.ensures ∙ c.if-is_allowed.true)

pub returns : goal.returns
returns c =
    let bs = c.args.bytes.now in
    ap Broken c.cause_of.ensures
    ∙ sym (elim c.match-measure.branch [
      | in-Some+else-is_allowed w ↦ wrong bs c.measure.ensures w.in-Some.is (sym w.is_allowed.ensures ∙ w.if-is_allowed.false)
      | in_default w ↦ lost bs c.measure.ensures c.requires w.in_default.is
    ])
