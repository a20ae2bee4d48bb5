pub mod ByBound
