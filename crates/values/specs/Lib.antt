pub mod Scalar
pub mod List
pub mod Count
pub mod Code
