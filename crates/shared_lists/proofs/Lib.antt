pub mod Listed
pub mod Ropes
