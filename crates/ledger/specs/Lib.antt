pub mod Log
pub mod Wait
pub mod Ledger
pub mod Demand
pub mod Truth
pub mod Shelf
pub mod Versions
