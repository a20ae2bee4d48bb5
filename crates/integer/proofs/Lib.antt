pub mod Bases
pub mod Suffixed
pub mod Read
pub mod Scans
pub mod Parts
pub mod OtherDigits
pub mod Examples
pub mod Refused
