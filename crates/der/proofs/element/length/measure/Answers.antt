-- `der::element::length::measure` meets its contract: each return is a law of the length octets. Assumes nothing.
use mathlib.Core.Path.{refl, ap, ◌∙◌}
use native.Mathlib.Omega.{arith}
use Rattle.der.specs.steps.Span.{found_span}
use Rattle.der.proofs.theorems.element.SpanWays.{way_none, way_small, way_short, way_one, way_two, way_last}
use Rattle.der.proofs.element.length.measure.Goals as goal

pub returns-then-bytes-lt2 : goal.returns-then-bytes-lt2
returns-then-bytes-lt2 c = ap found_span (way_none c.args.bytes.now c.if-bytes-lt2.true)

pub returns-then-first-lt128 : goal.returns-then-first-lt128
returns-then-first-lt128 c = c.fit.ensures ∙ ap found_span (way_small c.args.bytes.now c.if-bytes-lt2.false c.if-first-lt128.true)

pub returns-then-bytes-lt4 : goal.returns-then-bytes-lt4
returns-then-bytes-lt4 c = ap found_span (way_short c.args.bytes.now c.if-bytes-lt2.false c.if-bytes-lt4.true c.if-first-lt128.false)

pub returns-then-first-top : goal.returns-then-first-top
returns-then-first-top c = c.fit-then-first-top.ensures ∙ ap found_span (way_one c.args.bytes.now _ _ refl refl c.if-bytes-lt4.false c.if-first-top.true)

pub overflow_mul-top : goal.overflow_mul-top
overflow_mul-top c = omega (arith, c.type_inv.bytes 2)

pub overflow_add-top : goal.overflow_add-top
overflow_add-top c = omega (arith, c.type_inv.bytes 2, c.type_inv.bytes 3)

pub returns-then-first-top-2 : goal.returns-then-first-top-2
returns-then-first-top-2 c = c.fit-then-first-top-2.ensures ∙ ap found_span (way_two c.args.bytes.now _ _ refl refl c.if-bytes-lt4.false c.if-first-top-2.true)

pub returns : goal.returns
returns c =
    ap found_span (way_last c.args.bytes.now _ _ refl refl c.if-bytes-lt4.false c.if-first-lt128.false c.if-first-top.false c.if-first-top-2.false)
