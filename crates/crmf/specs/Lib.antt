-- The request grammar: what it means (`meaning`), and what the code's functions answer (`steps`).
pub mod meaning
pub mod steps
