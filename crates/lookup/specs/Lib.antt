pub mod Search
pub mod Xcdr1
pub mod Xcdr2
pub mod Member
pub mod Code
