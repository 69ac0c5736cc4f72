-- The proof verdict and the duplicate search, on the messages of an accepted batch.
pub mod meaning
pub mod steps
