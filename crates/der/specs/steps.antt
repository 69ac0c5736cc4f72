-- What the code's functions answer, step by step; theorems tie these to the meaning.
pub mod Refusal
pub mod Cause
pub mod Head
pub mod Header
pub mod Utf8Classes
pub mod ContentTest
pub mod Order
pub mod Nest
pub mod Explain
pub mod Reading
pub mod Span
pub mod Recognise
