-- What a reader has to believe of messages: document 01's verdict and signed part (SPECIFICATION 7), the first equal pair of certReqIds (8), and
-- the answers of the two calls.
pub mod Verdict
pub mod Duplicates
pub mod Judges
pub mod Searches
