-- The shape of the code: no rule stands in this folder.
pub mod Run
pub mod Cycle
pub mod Ending
