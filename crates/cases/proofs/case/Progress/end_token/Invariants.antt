-- What `cases::case::Progress::end_token` keeps: the repetitions that are left, after those done, give the whole. Assumes nothing.
use Rattle.std.proofs.Common.{◌≡◌, ◌-◌}
use Rattle.cases.specs.Reading.{filled, repeated, token_ended, case_of}
use Rattle.cases.proofs.case.Progress.end_token.Given as goal

abbrev pub invariant-loop-turn : goal.invariant-loop-turn
invariant-loop-turn l = repeated (l.turn-end - l.turn) l.from (l.to - l.from) (filled l.room l.self.octets) ≡ token_ended (case_of l.fn.self l.fn.room)
