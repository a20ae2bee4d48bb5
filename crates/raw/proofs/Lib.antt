pub mod Steps
pub mod Bodies
pub mod Flags
pub mod Passes
pub mod Strings
pub mod Contents
pub mod Examples
