pub mod Groups
pub mod Loops
pub mod Determined
pub mod Padded
pub mod RoundTrip
pub mod Shortest
pub mod Refusals
