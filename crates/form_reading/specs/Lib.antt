pub mod Worths
pub mod Bare
