-- The duplicate search.
pub mod Collecting
pub mod Eights
pub mod FirstPairs
pub mod Magnitudes
pub mod SearchAnswers
pub mod SearchesExactly
pub mod SearchVectors
