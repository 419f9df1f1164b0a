pub mod Submits
pub mod Sends
pub mod Takes
pub mod Timers
