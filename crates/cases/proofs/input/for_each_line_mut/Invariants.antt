-- What `cases::input::for_each_line_mut` keeps: the lines so far are judged, and the judge may be called again. Assumes nothing.
use denote.Param.Always.{always_mut}
use Rattle.cases.specs.Lines.{ChangesLines}
use Rattle.cases.proofs.input.for_each_line_mut.Given as goal

abbrev pub invariant-loop-turn : goal.invariant-loop-turn
invariant-loop-turn g l = always_mut g.F.FnMut l.judge × ChangesLines g.F.FnMut g.T.Reading.anew g.T.Reading.after l.fn.judge l.judge
