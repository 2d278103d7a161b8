pub mod AllSpots
pub mod Counts
pub mod Ending
pub mod Leading
pub mod Locking
pub mod NoneKept
pub mod Stepping
pub mod Thrown
