-- What judging two batches answers, and what finding a part answers in document 01's numbers. Assumes nothing.
use Rattle.std.specs.Prelude.{ℕ, List, Result, Ok, Err}
use Rattle.der.specs.declared.refusal.Refused.{Refused}
use Rattle.der.specs.meaning.Refusal.{accepted}
use Rattle.der.specs.steps.Refusal.{refusal_number}
use Rattle.editions.specs.declared.pair.File.TheVariants.{First, Second}
use Rattle.editions.specs.declared.pair.PairRefused.{PairRefused}
use Rattle.editions.specs.meaning.Answers.{Answers}
use Rattle.editions.specs.meaning.TwoBatches.{Accepted}
use Rattle.editions.specs.steps.Results.{file_number}
use Rattle.compare.specs.declared.merge.Pair.{Pair}
use Rattle.compare.specs.declared.part.Part.{Part}

-- The first of two batches is refused, or the first is accepted and the second refused.
pub data Refuses (e : ℕ) (first second : List ℕ) : PairRefused → Type 0 where
  of_first : {r : Refused} → Answers e first (refusal_number r.refusal) r.place 0 → Refuses e first second (record { refused = r; file = First })
  of_second : {r : Refused} → Accepted e first → Answers e second (refusal_number r.refusal) r.place 0
      → Refuses e first second (record { refused = r; file = Second })

-- Two batches are judged in an edition: both are accepted with the counts of their rows, or one is refused.
abbrev pub Judged : (e : ℕ) (first second : List ℕ) → Result Pair PairRefused → Type 0
Judged e first second (Ok rows) = Answers e first accepted 0 rows.first × Answers e second accepted 0 rows.second
Judged e first second (Err why) = Refuses e first second why

-- What finding a part comes back with: the number, the place, whose refusal or part it is, and the part's first byte and length.
pub record PartAnswer : Type 0 where
  pub number : ℕ
  pub place : ℕ
  pub file : ℕ
  pub from : ℕ
  pub length : ℕ

abbrev pub part_answer_of : Result Part PairRefused → PartAnswer
part_answer_of (Ok p) = record { number = accepted; place = 0; file = file_number p.file; from = p.from; length = p.length }
part_answer_of (Err r) = record { number = refusal_number r.refused.refusal; place = r.refused.place; file = file_number r.file; from = 0; length = 0 }
