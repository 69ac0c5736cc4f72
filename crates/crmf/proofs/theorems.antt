-- The theorems and laws about the definitions, by what they are about; the proofs of functions stand beside them, in the folders of src.
pub mod explain
pub mod recognise
pub mod editions
pub mod pieces
pub mod grammar
pub mod lines
pub mod messages
pub mod rows
pub mod lists
pub mod values
