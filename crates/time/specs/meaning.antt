-- What a reader has to believe of times (SPECIFICATION 3.6): document 01's words on Time, and document 02's request A12.
pub mod Calendar
pub mod Time
pub mod Validity
