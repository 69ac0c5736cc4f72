-- Worked examples.
pub mod Moments
