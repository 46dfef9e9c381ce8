pub mod Laws
pub mod Results
pub mod Stores
pub mod Determined
