pub mod Cases
pub mod Bytes
pub mod Below
pub mod Parts
pub mod Runs
pub mod Counts
pub mod Sames
pub mod Windows
