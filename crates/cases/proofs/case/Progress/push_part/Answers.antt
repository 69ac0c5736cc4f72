-- `cases::case::Progress::push_part` meets its contract: each turn adds the next octet that is left, and a full room takes none. Assumes nothing.
use Rattle.std.proofs.Common.{sym, ◌∙◌}
use Rattle.cases.specs.Reading.{case_of}
use Rattle.cases.proofs.Steps.{added_next, added_done, added_full}
use Rattle.cases.proofs.case.Progress.push_part.Goals as goal

pub loop-i-preserved : goal.loop-i-preserved
loop-i-preserved c =
    let loop = c.loop-i in
    added_next _ _ (case_of loop.self loop.room) c.loop-i-test.true c.push_again.ensures ∙ loop.invariant

pub returns-then-self-ge-ROOM : goal.returns-then-self-ge-ROOM
returns-then-self-ge-ROOM c =
    let loop = c.loop-i in
    sym (added_full _ _ (case_of loop.self loop.room) c.if-self-ge-ROOM.true) ∙ loop.invariant

pub returns : goal.returns
returns c =
    let loop = c.loop-i in
    sym (added_done _ _ (case_of loop.self loop.room) c.loop-i-test.false) ∙ loop.invariant
