-- Lists and parts of lists.
pub mod Ends
pub mod Parts
pub mod Range
