-- `cases::case::Progress::end_token` meets its contract: each turn adds the token's octets once more. Assumes nothing.
use Rattle.std.proofs.Common.{◌-◌, sym, ap, ◌∙◌}
use Rattle.cases.specs.declared.case.Filled.{Filled}
use Rattle.cases.specs.declared.case.Case.{Case}
use Rattle.cases.specs.Reading.{filled, token_at, repeated, token_ended}
use Rattle.cases.proofs.Steps.{repeated_next, repeated_done}
use Rattle.cases.proofs.case.Progress.end_token.Goals as goal

pub loop-turn-init : goal.loop-turn-init
unfolding token_ended
loop-turn-init c =
    let p = c.args.self.now in
    ap (λ times. repeated (times - 1) p.token (p.octets - p.token) (filled c.args.room.now p.octets)) c.unwrap_or-turn-end.ensures

pub loop-turn-preserved : goal.loop-turn-preserved
loop-turn-preserved c =
    let p = c.args.self.now in
    let loop = c.loop-turn in
    let added = ap (λ (case : Case). case.filled) c.push_part.ensures in
    repeated_next _ _ p.token (p.octets - p.token) (filled loop.room loop.self.octets) c.loop-turn-test.true added ∙ loop.invariant

pub returns : goal.returns
returns c =
    let all = sym (repeated_done _ _ _ _ _ c.loop-turn-test.false) ∙ c.loop-turn.invariant in
    c.begin_token.ensures c.loop-turn.room ∙ ap (λ (k : Filled). token_at k) all
