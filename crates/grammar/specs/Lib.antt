pub mod Notation
pub mod Suffixes
pub mod Numbers
pub mod Escapes
pub mod Quoted
pub mod Decimal
pub mod Values
pub mod Meaning
