-- Times (SPECIFICATION 3.6): the calendar, what times and validities show, what the code answers of them, and examples.
pub mod meaning
pub mod steps
pub mod examples
