-- `verdict::elements::Elements::find` meets its contract: the search in what is left finds what the search in all does. Assumes nothing.
use Rattle.std.proofs.Common.{sym, ap, ◌∙◌, arith}
use Rattle.verdict.specs.steps.Judging.{part_found}
use Rattle.verdict.proofs.theorems.verdict.Elements.{find_end, find_onward, find_here, find_next}
use Rattle.verdict.proofs.elements.Elements.find.Goals as goal

pub overflow_sub-result : goal.overflow_sub-result
overflow_sub-result c =
    let first = c.split-first in
    omega (arith, find_onward c.loop-rest.rest c.loop-rest-test.true first.result.after first.ensures.after)

pub returns-then-first-id : goal.returns-then-first-id
returns-then-first-id c =
    let l = c.loop-rest in
    let first = c.split-first in
    find_here l.rest c.loop-rest-test.true first.result.after first.ensures.after c.args.id (sym first.ensures.identifier ∙ c.if-first-id.true)
    ∙ ap part_found l.invariant

pub loop-rest-smaller : goal.loop-rest-smaller
loop-rest-smaller c =
    let first = c.split-first in
    omega (arith, find_onward c.loop-rest.rest c.loop-rest-test.true first.result.after first.ensures.after, first.ensures.after, c.loop-rest-test.true)

pub loop-rest-preserved : goal.loop-rest-preserved
loop-rest-preserved c =
    let l = c.loop-rest in
    let first = c.split-first in
    find_next l.rest c.loop-rest-test.true first.result.after first.ensures.after c.args.id (λ is. c.if-first-id.false (first.ensures.identifier ∙ is))
    ∙ l.invariant

pub returns : goal.returns
returns c =
    let l = c.loop-rest in
    find_end l.rest c.args.id c.loop-rest-test.false ∙ ap part_found l.invariant
