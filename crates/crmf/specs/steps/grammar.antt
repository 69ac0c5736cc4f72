-- The grammar as code holds it: lines, computed from it, each packed into a number.
pub mod Codes
pub mod Lines
pub mod Packed
pub mod Fitting
