pub mod Ends
pub mod KindTests
pub mod Ranges
pub mod Scalars
pub mod Unions
pub mod Fits
pub mod Cuts
pub mod Settling
pub mod Exact
pub mod Books
pub mod ClauseTests
pub mod IdTests
pub mod Measuring
pub mod Checking
pub mod Demand3
pub mod Headers
pub mod Claims
pub mod Standing
pub mod Searches
pub mod Walk
pub mod Within
pub mod Told
pub mod Room
pub mod Needed
pub mod Bigger
mod Examples
mod IdExamples
mod WithinExamples
mod RoomExamples
