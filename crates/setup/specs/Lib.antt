pub mod Setup
pub mod Bytes
