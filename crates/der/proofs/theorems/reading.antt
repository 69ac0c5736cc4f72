-- Element trees, the tree that octets are read as, and the same elements at other places.
pub mod Placing
pub mod ReadElements
pub mod Readings
pub mod Trees
