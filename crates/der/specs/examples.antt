-- What the worked examples are stated with.
pub mod Each
