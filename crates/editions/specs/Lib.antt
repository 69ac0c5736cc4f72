-- Reading in an edition: what it means that bytes are in an edition's grammar, and document 01's answer for every input.
pub mod meaning
pub mod examples
pub mod steps
