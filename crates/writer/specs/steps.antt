-- What the code's functions answer, step by step; theorems tie these to the meaning.
pub mod Writing
pub mod Inner
pub mod Around
