pub mod Numbers
pub mod Filling
pub mod Repeating
pub mod Sliding
pub mod Determined
