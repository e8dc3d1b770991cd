pub mod Settling
pub mod Entries
pub mod Preparing
pub mod Spans
pub mod Packing
pub mod OneOutcome
pub mod Demand3
pub mod Numbers
pub mod Bigger
pub mod Telling
pub mod Never4
pub mod TextRows
mod Examples
