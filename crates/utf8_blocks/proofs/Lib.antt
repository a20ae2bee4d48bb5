pub mod Ranges
pub mod HighBytes
pub mod Clean
pub mod Faults
