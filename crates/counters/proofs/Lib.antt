pub mod Wrap
pub mod Windows
