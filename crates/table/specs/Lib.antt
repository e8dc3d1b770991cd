pub mod Rows
pub mod Outcome
pub mod Code
