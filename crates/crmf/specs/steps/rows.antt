-- Rows handed over one after another, the table filled with rows, a row as one number, a draft compared with them, and a batch assembled from its pieces.
pub mod Agree
pub mod Assembly
pub mod Fill
pub mod Packing
pub mod Take
