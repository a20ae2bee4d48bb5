pub mod Hexes
pub mod Escapes
pub mod Within
pub mod Values
pub mod Exact
