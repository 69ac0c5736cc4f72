-- What the code's functions answer.
pub mod Moments
