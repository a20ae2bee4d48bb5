pub mod Classes
pub mod Digits
pub mod Numbers
