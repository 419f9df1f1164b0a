pub mod Arrays
pub mod Changes
pub mod Marks
pub mod Replies
