pub mod Answer
pub mod Entry
pub mod Prepared
pub mod Text
pub mod Demand3
pub mod Room
pub mod Told
