-- Tests of lists.
pub mod Tests
