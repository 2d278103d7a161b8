pub mod Causes
pub mod Shown
pub mod Starting
pub mod Words
