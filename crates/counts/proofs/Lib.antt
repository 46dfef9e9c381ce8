pub mod Columns
pub mod Places
pub mod Determined
pub mod Refusals
pub mod One
