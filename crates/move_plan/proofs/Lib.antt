pub mod Lists
pub mod Ranges
pub mod Stopping
pub mod Worked
