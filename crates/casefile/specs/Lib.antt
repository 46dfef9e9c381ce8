pub mod Reading
pub mod Records
pub mod Pieces
pub mod Window
pub mod Promises
pub mod Laws
