pub mod Value
pub mod Member
pub mod Structure
pub mod Union
pub mod Nested
pub mod Code
