pub mod Determined
pub mod Refusals
pub mod Lost
pub mod Acquired
