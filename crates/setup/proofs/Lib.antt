pub mod Answers
pub mod Range
pub mod RoundTrip
pub mod Rows
