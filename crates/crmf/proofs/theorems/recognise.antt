-- The recogniser: exact in both directions.
pub mod Actions
pub mod AgreedRows
pub mod CountSteps
pub mod CountedWalks
pub mod CommonForms
pub mod RowlessInsides
pub mod PassedCounts
pub mod RecognisedBatches
pub mod RecognisedCounts
pub mod RecognisedTables
pub mod CountPlaces
pub mod CountWays
pub mod StepWays
