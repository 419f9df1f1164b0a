pub mod Said
pub mod Receiving
pub mod Sources
pub mod Unasked
pub mod Hosted
