-- What a reader has to believe of the request grammar, in document 01's order: after lists of numbers the editions, the value rules, the
-- grammar and the list of the differences, what it means and where a reading stops, rows and their kinds, what a template of edition 2 leaves out, and
-- the messages of a batch.
pub mod Lists
pub mod Edition
pub mod Details
pub mod Value
pub mod Notation
pub mod Grammar
pub mod Differences
pub mod Language
pub mod Stops
pub mod Kinds
pub mod Rows
pub mod LeftOut
pub mod Validity
pub mod Pieces
pub mod Fields
pub mod Messages
