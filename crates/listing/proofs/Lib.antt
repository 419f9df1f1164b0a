pub mod Digits
pub mod Examples
pub mod Longest
pub mod Placed
