pub mod Rows
pub mod Running
pub mod Stages
pub mod Promises
pub mod Laws
