pub mod Names
pub mod Step
pub mod Promises
pub mod Laws
