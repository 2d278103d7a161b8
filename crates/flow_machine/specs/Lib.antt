pub mod Awaits
pub mod Steps
pub mod Values
pub mod Views
