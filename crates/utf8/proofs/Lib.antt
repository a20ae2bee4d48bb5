pub mod First
pub mod Laws
pub mod Text
pub mod At
pub mod Valid
pub mod Cuts
pub mod Aligned
pub mod Examples
