pub mod Happens
pub mod Reopens
pub mod Unmet
pub mod World
