pub mod Wrapped
pub mod Loads
pub mod Given
