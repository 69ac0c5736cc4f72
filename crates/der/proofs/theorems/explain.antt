-- The walk that finds the first fault: exact, first and soonest.
pub mod AnyPlace
pub mod Causes
pub mod Exact
pub mod Explained
pub mod ExplainWays
pub mod FirstFault
pub mod SoonestFault
pub mod OneFault
pub mod Progress
pub mod Refusals
pub mod Steps
pub mod Vectors
