pub mod Wrapped
pub mod Counters
