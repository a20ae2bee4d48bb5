pub mod HighBytes
pub mod Faults
