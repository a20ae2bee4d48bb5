pub mod Utf8
pub mod Decode
pub mod Valid
pub mod Cut
