pub mod Activities
pub mod Checks
pub mod Histories
pub mod Tasks
pub mod Timers
