pub mod Laws
pub mod Decimals
