pub mod Choice
pub mod Flags
pub mod Refusals
pub mod Results
pub mod Laws
