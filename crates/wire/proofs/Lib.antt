pub mod Moves
pub mod Digits
pub mod Numbers
pub mod Words
pub mod Contents
mod Examples
