-- Octets without a fault.
pub mod RecogniseWays
pub mod Recognising
pub mod RecognisedTrees
