-- `der::content::utf8::ascii` meets its contract. The invariant of the loop: every octet before the place is below 80. Assumes nothing.
use mathlib.Core.Path.{◌≡◌, refl, sym, ap, ◌∙◌}
use native.Mathlib.Omega.{arith}
use borrow.Author.Count.{below_none}
use Rattle.std.proofs.Common.{rules, leb, drop}
use Rattle.std.specs.List.{position}
use Rattle.der.specs.meaning.Eights.{NextEightAscii}
use Rattle.der.proofs.theorems.content.Eights.{ascii_begins, ascii_further, eight_exactly, ascii_found, ascii_whole}
use Rattle.der.proofs.theorems.lists.Parts.{take_from}
use Rattle.der.proofs.content.utf8.ascii.Goals as goal
use Rattle.der.proofs.content.utf8.ascii.Goals.{After-first_high, At-loop-i, In-loop-i}

pub loop-i-init : goal.loop-i-init
loop-i-init c = (search rules, below_none _)

-- a turn of the loop: the next eight are below 80
next_eight : (c : In-loop-i) →
    let loop = (goal.at.In-loop-i c).At-loop-i in
    NextEightAscii loop.args.content.now loop.loop-i.i
next_eight c = let loop = (goal.at.In-loop-i c).At-loop-i in ((eight_exactly loop.args.content.now c.step.ensures).0 c.loop-i-test.true).1

pub step-requires : goal.step-requires
step-requires c =
    let content = c.args.content.now in
    let inv = c.loop-i.invariant in
    (inv.0, (λ e. ascii_begins content inv.0 inv.1, λ u. refl))

pub loop-i-smaller : goal.loop-i-smaller
loop-i-smaller c = omega (arith, (next_eight c).stand)

pub loop-i-preserved : goal.loop-i-preserved
loop-i-preserved c =
    let loop = (goal.at.loop-i-preserved c).At-loop-i in
    let content = loop.args.content.now in
    ((next_eight c).stand, ascii_further content loop.loop-i.invariant.1 (next_eight c))

-- the octets that are searched are those from the place on
searched : (c : After-first_high) → c.first_high.result ≡ position (λ b. leb 0x80 b) (drop c.loop-i.i c.args.content.now)
searched c = c.first_high.ensures ∙ ap (position (λ b. leb 0x80 b)) (take_from c.loop-i.i c.args.content.now)

pub returns-in-Some : goal.returns-in-Some
returns-in-Some c =
    let inv = c.loop-i.invariant in
    ascii_found c.args.content.now c.loop-i.i inv.0 inv.1 c.in-Some.further (sym (searched (goal.at.returns-in-Some c).After-first_high) ∙ c.in-Some.is)

pub returns-in-None : goal.returns-in-None
returns-in-None c =
    let inv = c.loop-i.invariant in
    ascii_whole c.args.content.now c.loop-i.i inv.0 inv.1 (sym (searched (goal.at.returns-in-None c).After-first_high) ∙ c.in-None.is)
