pub mod Escapes
pub mod Reduced
pub mod Form
