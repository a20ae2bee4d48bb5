pub mod String
pub mod Decode
pub mod Parts
pub mod Inner
