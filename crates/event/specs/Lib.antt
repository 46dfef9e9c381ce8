pub mod Names
pub mod Table
pub mod Promises
pub mod Laws
