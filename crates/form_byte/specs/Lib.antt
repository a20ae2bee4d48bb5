pub mod Styled
