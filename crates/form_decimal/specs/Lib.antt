pub mod Digits
pub mod Scaled
