pub mod Before
pub mod Orders
