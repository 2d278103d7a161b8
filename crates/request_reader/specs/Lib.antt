pub mod Json
pub mod Line
pub mod Progress
pub mod Reading
pub mod Requests
pub mod Values
