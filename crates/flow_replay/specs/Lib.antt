pub mod Entities
pub mod Moving
pub mod Resuming
