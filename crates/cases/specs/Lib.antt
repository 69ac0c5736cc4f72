-- What reading a case, one character after the other, leaves; the characters of the input; and what the table holds beforehand.
pub mod Reading
pub mod Input
pub mod Table
pub mod Lines
