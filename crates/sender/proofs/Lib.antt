pub mod Slots
pub mod Choosing
pub mod Arrays
pub mod Changes
