pub mod Same
pub mod Run
pub mod Sets
pub mod Windows
pub mod Part
