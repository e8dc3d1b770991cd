pub mod Types
pub mod Asked
pub mod Places
pub mod Labels
pub mod Rules
pub mod Fault
