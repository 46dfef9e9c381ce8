pub mod Ranges
pub mod Others
pub mod InTrace
pub mod Determined
