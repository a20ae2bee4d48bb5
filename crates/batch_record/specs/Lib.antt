pub mod Records
pub mod Program
