-- The shape of the code: no rule stands in this folder.
pub mod Turns
pub mod Ahead
pub mod Straight
