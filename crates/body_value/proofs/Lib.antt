pub mod Values
pub mod Complete
pub mod Sound
pub mod Exact
pub mod Examples
pub mod Contents
pub mod Writes
