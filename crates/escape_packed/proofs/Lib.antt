pub mod Braced
pub mod Codes
