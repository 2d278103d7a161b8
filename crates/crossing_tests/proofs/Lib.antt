pub mod Begun
pub mod Moved
