-- What a reader has to believe: the editions, membership of their grammars (SPECIFICATION 3.8), and document 01's answer (4, 5).
pub mod Edition
pub mod Membership
pub mod Answer
pub mod Answers
pub mod Reads
pub mod TwoBatches
pub mod HandedBack
