-- What comes back from a call, in document 01's numbers (SPECIFICATION 4). Assumes nothing.
use Rattle.std.specs.Prelude.{ℕ}

-- from a call with one batch: the number, the place, and the count
pub record Answer : Type 0 where
  pub number : ℕ
  pub place : ℕ
  pub count : ℕ

-- from a call with two batches: the number, the place, whose refusal it is, and the count
pub record PairAnswer : Type 0 where
  pub number : ℕ
  pub place : ℕ
  pub file : ℕ
  pub count : ℕ
