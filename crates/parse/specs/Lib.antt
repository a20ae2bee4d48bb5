pub mod Class
pub mod Sets
pub mod Digits
