-- The laws of the crate.
pub mod NumberTells
pub mod Demand1
pub mod Demands
