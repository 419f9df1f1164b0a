pub mod Rules
pub mod Start
pub mod Alls
