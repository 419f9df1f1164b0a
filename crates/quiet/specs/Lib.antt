pub mod Quiet
pub mod Burden
pub mod Untaken
