pub mod Alike
pub mod Whole
pub mod Outcome
pub mod Determined
