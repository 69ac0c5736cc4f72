-- `cases::input::Input::next` meets its contract: the text was read anew, since none of its characters was left. Assumes nothing.
use Rattle.cases.proofs.Characters.{first}
use Rattle.cases.proofs.input.Input.next.Goals as goal

pub returns-clause-read : goal.returns-clause-read
returns-clause-read g c = record {
  kept = λ some. absurd (c.in_default.not-Some _ (c.take.ensures.left some).1);
  anew = λ none. first _ _ c.read.new.buf c.in_ok-self.field-0 c.in_ok-self.ensures.bound.0 c.take-2.ensures.left c.take-2.ensures.none;
}
