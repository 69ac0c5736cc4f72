-- What `cases::input::Input::line` keeps: the characters so far are read one after the other, and none ends the line. Assumes nothing.
use Rattle.cases.specs.Lines.{ReadsOn}
use Rattle.cases.proofs.input.Input.line.Given as goal

abbrev pub invariant-loop-turn : goal.invariant-loop-turn
invariant-loop-turn g l = ReadsOn g.T.Reading.after (g.T.Reading.anew l.fn.line) l.line
