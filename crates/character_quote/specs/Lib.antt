pub mod Quote
pub mod Content
