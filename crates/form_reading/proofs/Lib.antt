pub mod Readings
pub mod Lengths
