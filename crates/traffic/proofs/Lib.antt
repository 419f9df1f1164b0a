pub mod Forth
pub mod Acks
pub mod Updates
pub mod Range
