pub mod Scan
pub mod Counts
