pub mod Crews
pub mod Growing
pub mod Halts
pub mod Running
pub mod Stepping
pub mod Stops
