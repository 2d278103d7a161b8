pub mod Adding
pub mod Ends
pub mod Halts
pub mod Heard
pub mod Held
pub mod Served
