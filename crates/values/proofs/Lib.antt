pub mod Scalars
pub mod Lists
pub mod Quickly
pub mod Runs
pub mod Placing
