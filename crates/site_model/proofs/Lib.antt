pub mod Faults
pub mod Images
pub mod Paths
pub mod Syncing
pub mod Tape
