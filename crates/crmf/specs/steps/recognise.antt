-- The recogniser, which counts the rows of a batch that is accepted.
pub mod Count
pub mod Inner
