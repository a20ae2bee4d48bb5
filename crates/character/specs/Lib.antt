pub mod Single
pub mod Parts
