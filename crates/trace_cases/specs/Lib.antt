pub mod Lines
pub mod Kinds
