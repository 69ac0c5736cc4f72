-- What the code's results say in document 01's numbers. Assumes nothing.
use Rattle.std.specs.Prelude.{ℕ, ◌≡◌, Result, Ok, Err, MatchResult}
use Rattle.der.specs.declared.refusal.Refusal.TheVariants.{UnknownEdition}
use Rattle.der.specs.declared.refusal.Refused.{Refused}
use Rattle.der.specs.steps.Refusal.{refusal_number}
use Rattle.crmf.specs.meaning.Edition as grammar
use Rattle.editions.specs.declared.edition.Edition.{Edition}
use Rattle.editions.specs.declared.edition.Edition.TheVariants.{Rfc2511, Rfc4211}
use Rattle.editions.specs.declared.pair.File.{File}
use Rattle.editions.specs.declared.pair.File.TheVariants.{Neither, First, Second}
use Rattle.editions.specs.declared.pair.PairRefused.{PairRefused}
use Rattle.editions.specs.meaning.Answer.{Answer, PairAnswer}
use Rattle.editions.specs.meaning.Edition.{rfc2511, rfc4211}
use Rattle.editions.specs.meaning.TwoBatches.{first_file, second_file, neither_file}
use Rattle.editions.specs.steps.Reading.{refusal, accepted}
use Rattle.der.specs.meaning.Refusal.{accepted as acceptance}

-- the number of an edition
abbrev pub edition_number : Edition → ℕ
edition_number Rfc2511 = rfc2511
edition_number Rfc4211 = rfc4211

-- the edition of a number; a number that is no edition's is refused with 13 at 0
abbrev pub ReadsEdition : ℕ → Result Edition Refused → Type 0
ReadsEdition n r = MatchResult r (λ e. edition_number e ≡ n) (λ d. (d ≡ record { refusal = UnknownEdition; place = 0 }) × (grammar.Edition n → ⊥))

-- what a call with one batch answers: the count, or the refusal
abbrev pub answer_of : Result ℕ Refused → Answer
answer_of (Ok n) = accepted n
answer_of (Err r) = refusal (refusal_number r.refusal) r.place

-- the number that says whose refusal it is
abbrev pub file_number : File → ℕ
file_number Neither = neither_file
file_number First = first_file
file_number Second = second_file

-- what a call with two batches answers: the count, or the refusal and whose it is
abbrev pub pair_answer_of : Result ℕ PairRefused → PairAnswer
pair_answer_of (Ok n) = record { number = acceptance; place = 0; file = neither_file; count = n }
pair_answer_of (Err r) = record { number = refusal_number r.refused.refusal; place = r.refused.place; file = file_number r.file; count = 0 }
