-- What the exact walk tallies, in numbers: a difference's number and a whole length are 0 where none was met. Assumes nothing.
use Rattle.std.specs.Prelude.{ℕ, Option, Some, None}
use Rattle.crmf.specs.declared.explain.first.Difference.{Difference as Form}
use Rattle.crmf.specs.declared.explain.first.LongId.{LongId as Long}
use Rattle.crmf.specs.declared.explain.tally.Tally.{Tally as Kept}

-- a form of one edition alone: its difference's number, 0 if none was met, and its place
pub record Difference : Type 0 where
  pub number : ℕ
  pub place : ℕ

-- a certReqId of more than 8 content octets: its whole length, 0 if none was met, and its place
pub record LongId : Type 0 where
  pub whole : ℕ
  pub place : ℕ

-- the count of rows, the first form of edition 1 alone, the first of edition 2 alone, and the first long certReqId
pub record Tally : Type 0 where
  pub count : ℕ
  pub one : Difference
  pub two : Difference
  pub long : LongId

-- the numbers of what the code notes
abbrev pub difference_of : Option Form → Difference
difference_of None = record { number = 0; place = 0 }
difference_of (Some d) = record { number = d.number; place = d.place }

abbrev pub long_id_of : Option Long → LongId
long_id_of None = record { whole = 0; place = 0 }
long_id_of (Some d) = record { whole = d.whole; place = d.place }

abbrev pub tally_of : Kept → Tally
tally_of s = record { count = s.count; one = difference_of s.one; two = difference_of s.two; long = long_id_of s.long }
