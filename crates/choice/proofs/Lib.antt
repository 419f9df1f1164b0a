pub mod Chosen
pub mod Passed
