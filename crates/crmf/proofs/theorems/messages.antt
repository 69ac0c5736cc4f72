-- The messages of a batch and their fields.
pub mod BatchesOfMessages
pub mod CutBatches
pub mod FieldLaws
pub mod FieldSteps
pub mod FieldsMatch
pub mod JoinedBatches
pub mod MessageLaws
pub mod MessageRows
pub mod MessageSizes
pub mod MessageSteps
pub mod MessageVectors
pub mod Positions
pub mod SettledFields
pub mod ShortIds
