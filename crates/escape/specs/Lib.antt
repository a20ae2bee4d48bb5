pub mod Allows
pub mod Escape
pub mod Pieces
