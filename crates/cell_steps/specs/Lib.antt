pub mod Ahead
pub mod Depends
pub mod Fills
pub mod Possible
pub mod Sent
pub mod Steps
