-- The verdict's answer by the cases of the code. Assumes nothing.
use Prim.Native.Nat.{ℕ, ◌≤◌, ◌<◌}
use mathlib.Core.Path.{◌≡◌}
use mathlib.Core.List.{List}
use lib.ListN.{length}
use borrow.Author.Tests.{eq-eqb, ne_eqb, lt-ltb, le-ltb}
use Rattle.der.specs.meaning.Refusal.{accepted, no_such_message}
use Rattle.der.specs.steps.Reading.{tree}
use Rattle.crmf.specs.meaning.Messages.{messages}
use Rattle.editions.specs.steps.Reading.{answer}
use Rattle.verdict.specs.steps.JudgeAnswer.{refused, verdict_on, message_at, verdict_answer}

module _ (e : ℕ) (s : List ℕ) (position : ℕ) where
  pub answer_refused : ((answer e s).number ≡ accepted → ⊥) → refused (answer e s).number (answer e s).place ≡ verdict_answer e s position
  unfolding verdict_answer
  answer_refused some = rw (verdict_answer, ne_eqb _ _ some)

  module _ (accepted : (answer e s).number ≡ accepted) where
    pub answer_missing : length (messages (tree 0 s)) ≤ position → refused no_such_message 0 ≡ verdict_answer e s position
    unfolding verdict_answer
    answer_missing past = rw (verdict_answer, eq-eqb _ _ accepted, le-ltb _ _ past)

    pub answer_judged : position < length (messages (tree 0 s)) → verdict_on (message_at s position) ≡ verdict_answer e s position
    unfolding verdict_answer
    answer_judged within = rw (verdict_answer, eq-eqb _ _ accepted, lt-ltb _ _ within)
