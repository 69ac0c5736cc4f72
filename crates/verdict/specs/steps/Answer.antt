-- What comes back from the two calls, in document 01's numbers (SPECIFICATION 7 and 8). Assumes nothing.
use Rattle.std.specs.Prelude.{ℕ}
use Rattle.crmf.specs.declared.messages.Position.{Position}

-- from judging a message's proof: the number, the place, the verdict, and the signed part's place and length
pub record Verdict : Type 0 where
  pub number : ℕ
  pub place : ℕ
  pub verdict : ℕ
  pub from : ℕ
  pub length : ℕ

-- from the search for duplicates: the number, the place, 1 if a pair was found and 0 if not, and the pair's positions
pub record Duplicates : Type 0 where
  pub number : ℕ
  pub place : ℕ
  pub found : ℕ
  pub earlier : Position
  pub later : Position
