pub mod Bare
