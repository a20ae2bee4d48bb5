pub mod Step
pub mod Body
pub mod Quote
pub mod Pieces
pub mod Packed
