pub mod Host
pub mod Parts
