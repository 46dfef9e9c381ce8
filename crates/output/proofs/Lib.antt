pub mod Places
pub mod Decimal
pub mod Determined
