pub mod Taking
pub mod Loop
pub mod Determined
pub mod Refusals
pub mod Stopping
pub mod Written
pub mod Padded
pub mod Answers
