-- The laws of the crate.
pub mod Writing
pub mod Digits
pub mod Answers
pub mod Tables
