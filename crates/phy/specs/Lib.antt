pub mod Names
pub mod Shapes
pub mod State
pub mod Moves
pub mod Ticks
pub mod Step
pub mod Promises
pub mod Laws
