-- An element's identifier, length octets and header.
pub mod HeaderWays
pub mod Headers
pub mod Identifiers
pub mod Length
pub mod MeasuredElements
pub mod SpanWays
pub mod Spans
