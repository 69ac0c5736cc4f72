-- The theorems and laws about the definitions. The proofs of the functions are beside them, in the folders of src.
pub mod Tables
pub mod Days
pub mod Digits
pub mod Dates
pub mod CodedDates
pub mod Times
pub mod Validities
pub mod Telling
pub mod Ranges
pub mod FieldOctets
pub mod MomentVectors
pub mod TimeVectors
