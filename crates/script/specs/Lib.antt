pub mod Script
pub mod Step
