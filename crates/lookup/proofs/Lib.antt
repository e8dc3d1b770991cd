pub mod Turns
pub mod Xcdr1Turns
pub mod Xcdr2Turns
mod Examples
pub mod Aheads
pub mod Hints
pub mod Leading
