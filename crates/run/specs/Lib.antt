pub mod Running
pub mod Promises
pub mod Stages
pub mod Laws
