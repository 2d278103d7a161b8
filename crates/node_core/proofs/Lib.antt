pub mod Frames
pub mod Growing
mod Owners
pub mod Spending
pub mod Steps
mod Turned
mod Waits
