-- What the code's functions answer, step by step; theorems tie these to the meaning.
pub mod OneWalk
pub mod Reading
pub mod Results
