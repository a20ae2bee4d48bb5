pub mod ReturnValue
