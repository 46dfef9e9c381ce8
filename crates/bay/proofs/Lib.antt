pub mod Calm
pub mod Legs
pub mod Passing
pub mod Steps
pub mod Determined
