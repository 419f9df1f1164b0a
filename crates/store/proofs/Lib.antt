pub mod Categories
pub mod Chains
pub mod Held
