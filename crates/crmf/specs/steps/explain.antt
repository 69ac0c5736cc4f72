-- The exact walk, which finds the place of 8 and 9.
pub mod Tally
pub mod Walk
pub mod Inner
pub mod LongIds
