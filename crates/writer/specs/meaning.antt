-- What a reader has to believe (SPECIFICATION 6 and 10): what it means that a batch has a draft's rows, what the join of two batches is and what is
-- cut out of one, and what writing, joining and cutting answer and leave.
pub mod Cuts
pub mod Draft
pub mod Groupings
pub mod Joins
pub mod Writes
