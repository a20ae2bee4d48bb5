pub mod Starts
pub mod Literals
pub mod Decodes
pub mod Sound
pub mod Complete
pub mod Values
pub mod Refused
