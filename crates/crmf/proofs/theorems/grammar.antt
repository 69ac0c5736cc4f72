-- The grammar's meaning, an element at a time, and that it is deterministic.
pub mod AlikeMatches
pub mod AscendingKinds
pub mod Choices
pub mod ChoicesMatch
pub mod Containers
pub mod Names
