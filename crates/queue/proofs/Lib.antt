pub mod Held
pub mod Loops
pub mod Places
pub mod Determined
pub mod Lending
pub mod Moves
pub mod Long
