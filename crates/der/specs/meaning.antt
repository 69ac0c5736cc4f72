-- What a reader has to believe of DER elements (SPECIFICATION 2), in the order of document 01's section "The nest of elements"; `Eights` is
-- document 02's A2, and `Order` its A3.
pub mod Refusal
pub mod Octets
pub mod Bounds
pub mod Identifier
pub mod Length
pub mod Utf8
pub mod Eights
pub mod Content
pub mod Order
pub mod Tree
pub mod Fault
pub mod Explains
