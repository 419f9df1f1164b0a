pub mod Taken
pub mod Ran
