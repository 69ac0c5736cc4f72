-- What the C calls that return one number answer: SPECIFICATION 1, 3.6 and 7. Assumes nothing.
use Rattle.std.specs.Prelude.{ℕ, ◌+◌, ◌≡◌, true, false, List, eqb, ℤ, pos, negsuc}
use Rattle.std.proofs.Math.Option.{Option, some, none}
use Rattle.der.specs.meaning.Refusal.{accepted}
use Rattle.editions.specs.meaning.Answers.{Answers}
use Rattle.verdict.specs.meaning.Judges.{Judges}

-- "acceptance .. exported to it on numbers": the number of the answer
pub record AcceptsBy (e : ℕ) (s : List ℕ) (number : ℕ) : Type 0 where
  pub place : ℕ
  pub count : ℕ
  pub answer : Answers e s number place count

-- what is added to a refusal's number
abbrev pub refused_by : ℕ
refused_by = 256

-- "the verdict [is] exported to it on numbers": the verdict, which is at most 7, or 256 plus the refusal's number (`number_tells`)
abbrev pub one_number : (number verdict : ℕ) → ℕ
one_number n v = elim (eqb n accepted) [ true ↦ v | false ↦ refused_by + n ]

-- the verdict on the message at a position, or the refusal, in one number
pub record JudgesBy (e : ℕ) (s : List ℕ) (position told : ℕ) : Type 0 where
  pub number : ℕ
  pub place : ℕ
  pub verdict : ℕ
  pub from : ℕ
  pub size : ℕ
  pub answer : Judges e s position number place verdict from size
  pub same : told ≡ one_number number verdict

-- "it shall give the moment as whole seconds": the moment that is shown, or -1 if none is
unfoldable pub moment_number : Option ℕ → ℤ
moment_number (some n) = pos n
moment_number none = negsuc 0
