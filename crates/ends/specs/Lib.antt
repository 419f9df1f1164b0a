pub mod Ends
pub mod Sends
