pub mod KindTests
pub mod Walking
pub mod Flat
mod Examples
