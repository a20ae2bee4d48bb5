pub mod Integer
pub mod Parts
