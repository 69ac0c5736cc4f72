-- What calls with two batches have in common: whose refusal an answer is, and that a batch is accepted. Assumes nothing.
use Rattle.std.specs.Prelude.{ℕ, List}
use Rattle.der.specs.meaning.Refusal.{accepted}
use Rattle.editions.specs.meaning.Membership.{InGrammar}
use Rattle.editions.specs.meaning.Answers.{Answers}

-- `file`: "whose refusal" an answer is, the first batch's, the second's, or neither's
abbrev pub first_file : ℕ
first_file = 1

abbrev pub second_file : ℕ
second_file = 2

abbrev pub neither_file : ℕ
neither_file = 0

-- A batch that the edition accepts, with so many rows.
pub record Accepted (e : ℕ) (s : List ℕ) : Type 0 where
  pub rows : ℕ
  pub answer : Answers e s accepted 0 rows
  pub batch : InGrammar e s
