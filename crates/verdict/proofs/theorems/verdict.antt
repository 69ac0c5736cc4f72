-- The verdict and the signed part.
pub mod Answers
pub mod Batches
pub mod Elements
pub mod JudgesExactly
pub mod Judging
pub mod MessagePlaces
pub mod PaperVectors
pub mod RefusalNumbers
pub mod SmallVerdicts
pub mod VerdictVectors
pub mod Verdicts
