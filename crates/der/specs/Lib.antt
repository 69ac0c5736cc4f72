-- DER elements (SPECIFICATION 2): what they are, what the code answers of them, and examples.
pub mod meaning
pub mod steps
pub mod examples
