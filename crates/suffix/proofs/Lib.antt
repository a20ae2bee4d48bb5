pub mod Starts
pub mod Suffixes
