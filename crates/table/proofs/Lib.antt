pub mod Filling
pub mod Outcomes
