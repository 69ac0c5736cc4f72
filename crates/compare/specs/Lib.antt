-- Comparing two batches, by the rows that they have.
pub mod meaning
pub mod steps
