-- What a reader has to believe of two batches (SPECIFICATION 11): which rows are counterparts, what their list of changes is, and the answers of
-- the two calls.
pub mod Counterparts
pub mod Changes
pub mod Times
pub mod Compares
pub mod Parts
