pub mod Names
pub mod State
pub mod Step
pub mod Run
pub mod Promises
pub mod Laws
