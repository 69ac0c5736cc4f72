-- `verdict::elements::Elements::split` meets its contract: what is inside the first element, and what is after it, lies in order. Assumes nothing.
use Rattle.crmf.specs.steps.Fields.{Places}
use Rattle.crmf.proofs.Laws.{content_places, after_places}
use Rattle.verdict.proofs.elements.Elements.split.Goals as goal
use Rattle.verdict.proofs.elements.Elements.split.Goals.{After-read_at-x}

pub invariant_of-inside : goal.invariant_of-inside
invariant_of-inside c =
    let e = c.args.self in
    let lent : Places e.bytes.now e.at e.end = record { order = e.order; within = e.within; short = e.short } in
    let p = content_places e.bytes.now e.at e.end lent c.read_at-x.result c.read_at-x.ensures in
    record { order = p.order; within = p.within; short = p.short }

pub invariant_of-after : goal.invariant_of-after
invariant_of-after c =
    let e = c.args.self in
    let lent : Places e.bytes.now e.at e.end = record { order = e.order; within = e.within; short = e.short } in
    let p = after_places e.bytes.now e.at e.end lent c.read_at-x.result c.read_at-x.ensures in
    record { order = p.order; within = p.within; short = p.short }
