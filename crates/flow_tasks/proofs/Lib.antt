pub mod ByName
pub mod Copies
pub mod Inserts
pub mod Kept
pub mod OpenTasks
pub mod Places
pub mod Positions
