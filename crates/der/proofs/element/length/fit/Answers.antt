-- `der::element::length::fit` meets its contract: each return is a case of `fitted`. Assumes nothing.
use borrow.Author.Tests.{le-leb, lt-leb, ne_eqb}
use native.Mathlib.Omega.{arith}
use Prim.Native.Nat.{◌+◌, ◌≤◌, ◌<◌}
use Rattle.der.specs.steps.Span.{fitted, found_span}
use Rattle.der.proofs.element.length.fit.Goals as goal

pub returns-then-room-octets : goal.returns-then-room-octets
returns-then-room-octets c =
    let a = c.args in
    let past : a.room < a.octets + a.length = omega arith in
    simp (found_span, fitted, lt-leb (a.octets + a.length) a.room past)

pub returns : goal.returns
returns c =
    let a = c.args in
    let fits : a.octets + a.length ≤ a.room = omega (arith, c.requires) in
    simp (found_span, fitted, le-leb (a.octets + a.length) a.room fits, ne_eqb a.octets 0 (omega (arith, c.requires)))
