pub mod Rested
pub mod Served
