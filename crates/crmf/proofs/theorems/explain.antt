-- The exact walk: it passes exactly what is in the grammar, and what it tallies.
pub mod Accepts
pub mod CountedBatches
pub mod EveryForm
pub mod FirstLongIds
pub mod LongIds
pub mod Meeting
pub mod Passing
pub mod Stopping
pub mod Vectors
pub mod WalkSteps
pub mod Walking
pub mod WholeInput
