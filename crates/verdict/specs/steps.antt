-- What the code's functions answer, step by step; theorems tie these to the meaning.
pub mod Answer
pub mod JudgeAnswer
pub mod Judging
pub mod SearchAnswer
pub mod Collecting
pub mod Sizes
pub mod Results
