pub mod Discriminator
pub mod Select
pub mod Code
