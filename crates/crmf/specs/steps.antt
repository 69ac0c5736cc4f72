-- What the code's functions answer, step by step; theorems tie these to the meaning.
pub mod grammar
pub mod explain
pub mod rows
pub mod recognise
pub mod Fields
pub mod Positions
