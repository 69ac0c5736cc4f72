-- What the C calls answer beyond the definitions of the crates below.
pub mod OneNumber
