pub mod Float
pub mod Counts
pub mod Parts
