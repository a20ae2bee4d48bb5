pub mod Plain
pub mod PlainInAll
