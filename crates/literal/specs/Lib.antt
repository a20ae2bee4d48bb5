pub mod Values
pub mod Suffixes
pub mod Readings
pub mod Decodes
pub mod Inside
