pub mod Names
pub mod Counters
pub mod Lent
pub mod Walk
pub mod Promises
pub mod Laws
