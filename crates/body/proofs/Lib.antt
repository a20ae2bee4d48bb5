pub mod Steps
pub mod Within
pub mod Bodies
pub mod Runs
pub mod Codes
pub mod Bytes
pub mod Strings
pub mod Turns
