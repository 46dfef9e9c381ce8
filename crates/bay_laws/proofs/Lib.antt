pub mod Ticks
pub mod AtMost
pub mod Last
pub mod Rest
pub mod Steps
pub mod Refusals
pub mod Bytes
pub mod Spelled
