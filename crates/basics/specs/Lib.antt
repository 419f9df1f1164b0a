pub mod Choice
pub mod Lists
pub mod Each
pub mod Number
pub mod Parts
