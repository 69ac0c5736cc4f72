-- Writing, joining and cutting: what it means that a batch has a draft's rows, what a join and a cut are, and the papers' answers for every input.
pub mod meaning
pub mod steps
