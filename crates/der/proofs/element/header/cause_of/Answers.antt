-- `der::element::header::cause_of` meets its contract: each return is a law of the cause. Assumes nothing.
use borrow.Author.Tests.{eqb-true}
use mathlib.Core.Path.{refl, sym, ◌∙◌}
use native.Mathlib.Omega.{arith}
use Prim.Native.Nat.{◌≤◌}
use lib.ListN.{length, get_or}
use Rattle.der.proofs.theorems.lists.Ends.{filled}
use Rattle.der.proofs.theorems.element.HeaderWays.{way_empty, way_unsized, way_short, way_reserved, way_cut, way_longer, way_past, asks_some}
use Rattle.der.proofs.theorems.element.Spans.{refused_cause}
use Rattle.der.proofs.element.header.cause_of.Goals as goal
use Rattle.der.proofs.element.header.cause_of.Goals.{Else-bytes-eq1}

-- there are two octets if the first length octet is read
some : (c : Else-bytes-eq1) → 2 ≤ length c.args.bytes.now
some c = omega (arith, filled c.args.bytes.now c.is_empty.ensures c.if-is_empty.false)

pub returns-then-is_empty : goal.returns-then-is_empty
returns-then-is_empty c = way_empty c.args.bytes.now (eqb-true _ 0 (sym c.is_empty.ensures ∙ c.if-is_empty.true))

pub returns-then-not-is_allowed : goal.returns-then-not-is_allowed
returns-then-not-is_allowed c =
    refused_cause c.args.bytes.now (filled c.args.bytes.now c.is_empty.ensures c.if-is_empty.false) (sym c.is_allowed.ensures ∙ c.if-not-is_allowed.true)

pub returns-then-bytes-eq1 : goal.returns-then-bytes-eq1
returns-then-bytes-eq1 c = way_unsized c.args.bytes.now c.if-bytes-eq1.true (sym c.is_allowed.ensures ∙ c.if-not-is_allowed.false)

pub returns-then-first-lt128 : goal.returns-then-first-lt128
returns-then-first-lt128 c =
    let e = (goal.at.returns-then-first-lt128 c).Else-bytes-eq1 in
    way_short c.args.bytes.now (some e) (sym c.is_allowed.ensures ∙ c.if-not-is_allowed.false) c.if-first-lt128.true

pub returns-then-first : goal.returns-then-first
returns-then-first c =
    let e = (goal.at.returns-then-first c).Else-bytes-eq1 in
    way_reserved c.args.bytes.now (some e) (sym c.is_allowed.ensures ∙ c.if-not-is_allowed.false) c.if-first.true

pub returns-then-bytes-count : goal.returns-then-bytes-count
returns-then-bytes-count c =
    let e = (goal.at.returns-then-bytes-count c).Else-bytes-eq1 in
    way_cut c.args.bytes.now _ (some e) (sym c.is_allowed.ensures ∙ c.if-not-is_allowed.false)
    (c.type_inv.bytes 1).fits c.if-first-lt128.false c.if-first.false refl c.if-bytes-count.true

pub bounds-bytes-2 : goal.bounds-bytes-2
bounds-bytes-2 c =
    let bs = c.args.bytes.now in
    omega (arith, c.if-bytes-count.false, asks_some (get_or bs 1 0) (c.type_inv.bytes 1).fits c.if-first-lt128.false c.if-first.false)

pub returns-then-top-count : goal.returns-then-top-count
returns-then-top-count c =
    let e = (goal.at.returns-then-top-count c).Else-bytes-eq1 in
    way_longer c.args.bytes.now _ (some e) (sym c.is_allowed.ensures ∙ c.if-not-is_allowed.false)
    (c.type_inv.bytes 1).fits c.if-first-lt128.false c.if-first.false refl c.if-bytes-count.false c.if-top-count.true

pub returns : goal.returns
returns c =
    let e = (goal.at.returns c).Else-bytes-eq1 in
    way_past c.args.bytes.now _ (some e) (sym c.is_allowed.ensures ∙ c.if-not-is_allowed.false)
    (c.type_inv.bytes 1).fits c.if-first-lt128.false c.if-first.false refl c.if-bytes-count.false c.if-top-count.false
