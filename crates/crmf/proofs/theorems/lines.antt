-- The table of lines: what its words say, the search in it, and that it is the grammar's.
pub mod JudgeCodes
pub mod WordFields
pub mod Fitting
pub mod Judging
pub mod LinesOfParts
pub mod Markings
pub mod Search
pub mod TableChecks
