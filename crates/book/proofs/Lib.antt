pub mod Places
pub mod Answers
pub mod Rising
pub mod Search
pub mod Indexing
pub mod Kept
pub mod Judging
pub mod Faults
pub mod Telling
pub mod Good
mod Examples
