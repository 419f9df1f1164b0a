pub mod Sender
pub mod Sources
