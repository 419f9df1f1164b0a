pub mod Choice
pub mod Seen
