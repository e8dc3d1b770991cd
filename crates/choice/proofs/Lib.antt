pub mod Discriminators
pub mod Selection
