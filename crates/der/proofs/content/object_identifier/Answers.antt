-- `der::content::object_identifier` meets its contract: without an octet 80 the last octet decides. Assumes nothing.
use Rattle.std.proofs.Common.{nat_eq}
use Prim.Native.Nat.{◌-◌}
use Rattle.std.proofs.lemmas.List.{get_or_default}
use Rattle.std.proofs.lemmas.List.Folds.{list_any_at}
use borrow.Author.Tests.{ltb-true}
use lib.ListN.{length}
use mathlib.Core.Bool.{false≢true}
use mathlib.Core.Path.{sym, ap, ◌∙◌}
use native.Mathlib.Omega.{arith}
use Rattle.der.specs.meaning.Content.{object_identifier}
use Rattle.der.proofs.theorems.content.ContentRules.{identifier_without_80}
use Rattle.der.proofs.theorems.lists.Ends.{none}
use Rattle.der.proofs.content.object_identifier.Goals as goal

pub returns-in_default : goal.returns-in_default
unfolding object_identifier
returns-in_default c = sym (ap object_identifier (none c.args.content.now (omega (arith, c.in_default.ensures {u = tt}))))

pub returns-then-not-contains : goal.returns-then-not-contains
returns-then-not-contains c =
    let content = c.args.content.now in
    let item = (c.in-Some.ensures {u = tt}).item in
    let some = ltb-true 0 (length content) (sym item.0) in
    rw (item.1 ∙ get_or_default content (length content - 1) c.in-Some.last.now 0 (omega arith))
    (identifier_without_80 content some
    (λ i inside e. false≢true (sym c.if-not-contains.true ∙ c.contains.ensures.value ∙ list_any_at (λ y. nat_eq y 0x80) content i 0 inside (ap (λ y. nat_eq y 0x80) e))))
