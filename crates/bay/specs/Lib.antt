pub mod State
pub mod Gap
pub mod Step
pub mod Legs
pub mod Log
pub mod Promises
pub mod Laws
