-- `cases::input::Input::line` meets its contract: each turn reads what is left before the line's end and a character more, and the line's end is
-- the last. Assumes nothing.
use Rattle.std.specs.Prelude.{Result, Ok, Err, OnErr}
use Rattle.std.proofs.Common.{ℕ, ap, ◌∙◌}
use Rattle.cases.proofs.Lines.{reads_none, reads_more, reads_run}
use Rattle.cases.proofs.input.Input.line.Goals as goal

-- what holds anyway holds if there is an error
on_error : {T E P : Type 0} (r : Result T E) → P → OnErr r P
on_error (Ok x) holds = tt
on_error (Err e) holds = holds

pub loop-turn-init : goal.loop-turn-init
loop-turn-init g c = reads_none g.T.Reading.after _ _ c.restart.ensures

pub loop-turn-preserved : goal.loop-turn-preserved
loop-turn-preserved g c =
    let on = reads_run g.T.Reading.after _ _ _ _ _ c.loop-turn.invariant c.read_run.ensures in
    reads_more g.T.Reading.after _ _ _ c.in-Some.c on c.if-c-eq10.false c.read.ensures

pub returns-then-c-eq10-clause-whole : goal.returns-then-c-eq10-clause-whole
returns-then-c-eq10-clause-whole g c =
    let on = reads_run g.T.Reading.after _ _ _ _ _ c.loop-turn.invariant c.read_run.ensures in
    λ whole. (c.read_run.new.line, on, c.read.ensures ∙ ap (λ (b : ℕ). g.T.Reading.after c.read_run.new.line b) c.if-c-eq10.true)

pub returns-in_err-c-clause-failed : goal.returns-in_err-c-clause-failed
returns-in_err-c-clause-failed g c = on_error c.from_residual.result (reads_run g.T.Reading.after _ _ _ _ _ c.loop-turn.invariant c.read_run.ensures)

pub returns-in_default-clause-rest : goal.returns-in_default-clause-rest
returns-in_default-clause-rest g c = λ none. reads_run g.T.Reading.after _ _ _ _ _ c.loop-turn.invariant c.read_run.ensures
