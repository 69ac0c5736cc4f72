-- A heading after the next character, a line after the next character, and the editions that a line is judged in.
pub mod Heading
pub mod Line
pub mod Editions
