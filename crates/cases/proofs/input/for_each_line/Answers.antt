-- `cases::input::for_each_line` meets its contract: each turn judges one line more. Assumes nothing.
use Rattle.std.proofs.Common.{[], ◌∷◌, ◌++◌, refl, rules, of_calls}
use Rattle.std.proofs.lemmas.Fn.{FoldsTo-push}
use Rattle.cases.proofs.input.for_each_line.Goals as goal

pub loop-turn-preserved : goal.loop-turn-preserved
loop-turn-preserved g c =
    let done = c.loop-turn.invariant.1 in (
      search of_calls,
      (
        done.0 ++ (c.line.new.line ∷ []),
        FoldsTo-push _ _ done.0 _ c.line.new.line _ done.1
            ((c.loop-turn.line, c.in_ok-line.ensures.whole (search rules)), record { shown = _; shows = refl; called = c.in_ok-judge.ensures }),
      ),
    )
