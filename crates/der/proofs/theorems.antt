-- The theorems and laws about the definitions, by subject. The proofs of the functions are beside them, in the folders of src.
pub mod content
pub mod closing
pub mod lists
pub mod explain
pub mod element
pub mod reading
pub mod recognise
