-- A page and a text on it; the digits of a number; the text of an answer; the text of a table's rows.
pub mod Page
pub mod Lent
pub mod Decimal
pub mod Answer
pub mod Rows
