pub mod Range
pub mod Shape
pub mod Walk
pub mod Flat
