pub mod Steps
pub mod Submits
pub mod Takes
