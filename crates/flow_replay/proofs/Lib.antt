pub mod Replayed
pub mod Steps
pub mod Taken
