-- `crmf::recognise::common::type_and_value` meets its contract: an OBJECT IDENTIFIER, and a primitive element after it or nothing. Assumes nothing.
use borrow.Author.Tests.{not-true}
use mathlib.Core.Bool.{false≢true}
use mathlib.Core.Path.{sym, ◌∙◌}
use Rattle.crmf.proofs.theorems.recognise.RowlessInsides.{rowless_type, rowless_type_and_value}
use Rattle.crmf.proofs.recognise.common.type_and_value.Goals as goal

pub returns-then-to-bytes : goal.returns-then-to-bytes
returns-then-to-bytes c = λ yes.
    let alone =
    rowless_type c.args.bytes.now c.requires c.in-Some.ensures (sym c.object_identifier.ensures ∙ c.if-not-object_identifier.false) c.if-to-bytes.true in
    (λ none. alone, λ needed. absurd (false≢true (sym (not-true _ yes) ∙ needed)))

pub returns : goal.returns
returns c = λ yes.
    let both =
    rowless_type_and_value c.args.bytes.now c.requires c.in-Some.ensures (sym c.object_identifier.ensures ∙ c.if-not-object_identifier.false)
    (c.primitive.ensures yes) in
    (λ none. both.0, λ needed. both.1)
