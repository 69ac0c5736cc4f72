-- What the code's functions are lent and answer; theorems tie these to the meaning.
pub mod Arranged
pub mod Merging
pub mod Tables
pub mod Lists
pub mod Told
pub mod Walking
pub mod Finding
pub mod Judging
