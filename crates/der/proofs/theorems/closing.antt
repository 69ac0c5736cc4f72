-- The rule that is judged at a constructed element's end: a SET's members ascend.
pub mod Precedence
pub mod WholeElements
pub mod MembersRead
pub mod Ascends
pub mod Closing
pub mod ClosingWays
pub mod SetsAscend
