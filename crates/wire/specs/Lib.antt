pub mod Identifier
pub mod Place
pub mod Ends
pub mod Number
pub mod Signed
pub mod Dheader
pub mod Code
