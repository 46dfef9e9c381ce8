pub mod Laws
pub mod Gaps
pub mod Spelled
