pub mod Table
pub mod Bytes
pub mod Units
pub mod Strings
mod Examples
pub mod Places
