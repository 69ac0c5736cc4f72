-- The content rules and UTF-8.
pub mod Checked
pub mod ContentRules
pub mod Productions
pub mod TrailingZeros
pub mod Eights
pub mod HighBits
pub mod Utf8Steps
