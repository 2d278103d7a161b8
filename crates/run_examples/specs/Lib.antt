pub mod Calls
pub mod Clocks
pub mod Directories
pub mod Going
pub mod Promised
pub mod Saying
pub mod States
