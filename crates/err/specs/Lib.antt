pub mod Outcome
pub mod Numbers
pub mod Reading
pub mod Kinds
pub mod Checked
pub mod Answer
pub mod Counts
