pub mod Leads
pub mod Digits
