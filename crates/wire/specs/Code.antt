-- The shape of the code: no rule stands in this folder.
pub mod Reads
