pub mod Tests
pub mod Between
pub mod Exits
