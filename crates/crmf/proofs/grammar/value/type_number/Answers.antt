-- `crmf::grammar::value::type_number` meets its contract: nine octets are compared as the definition does, and any other length is refused.
-- Assumes nothing.
use mathlib.Core.Bool.{true, false}
use mathlib.Core.Path.{sym, ap, ◌∙◌}
use Rattle.std.specs.Prelude.{Some}
use Rattle.time.proofs.Laws.{none_told}
use Rattle.crmf.specs.meaning.Value.{type_number}
use Rattle.crmf.proofs.theorems.values.ValueRules.{type_told, other_length}
use Rattle.crmf.proofs.grammar.value.type_number.Goals as goal
use Rattle.crmf.proofs.grammar.value.type_number.Goals.{Else-content-ne9}

pub returns-then-content-ne9 : goal.returns-then-content-ne9
unfolding type_number
returns-then-content-ne9 c = rw (type_number, other_length c.args.content.now _ c.if-content-ne9.true) (sym none_told)

pub returns-then-front-back : goal.returns-then-front-back
returns-then-front-back c =
    let b = (goal.at.returns-then-front-back c).Else-content-ne9 in
    let a = b.args in
    ap Some c.from.ensures ∙ type_told a.content.now b.if-content-ne9.false a.arc a.most true c.if-front-back.true

pub returns : goal.returns
returns c =
    let b = (goal.at.returns c).Else-content-ne9 in
    let a = b.args in
    type_told a.content.now b.if-content-ne9.false a.arc a.most false c.if-front-back.false
