pub mod Raw
pub mod Content
pub mod Scan
