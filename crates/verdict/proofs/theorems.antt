-- The theorems and laws about the definitions.
pub mod verdict
pub mod duplicates
