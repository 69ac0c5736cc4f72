-- Document 01's batches, and refusals worked out from it.
pub mod Paper
pub mod Refusals
