pub mod Digits
pub mod Numbers
pub mod Capped
pub mod Signs
pub mod Reducing
pub mod Shape
pub mod Texts
pub mod Examples
