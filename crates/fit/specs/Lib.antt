pub mod Fit
pub mod Ids
pub mod Code
pub mod Check
pub mod Demand3
pub mod Within
pub mod Told
pub mod Room
