pub mod Lines
pub mod Listing
pub mod Promises
pub mod Laws
pub mod ReadsOn
