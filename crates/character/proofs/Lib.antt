pub mod Within
pub mod Start
pub mod Exact
pub mod Values
pub mod Examples
