pub mod Times
pub mod Outcomes
pub mod Refused
pub mod After
pub mod Rows
