pub mod Unicode
pub mod Text
pub mod Code
